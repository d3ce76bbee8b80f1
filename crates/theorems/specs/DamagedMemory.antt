-- REFUSAL 3 IS EXACT: memory holds admitted statements and renames accepted after them exactly when some text of any length, read under the rules,
-- and some calls after it leave it.
-- Assumes nothing.
use Rattle.std.proofs.Common.{ap, ◌∙◌}
use Rattle.std.specs.Prelude.{List, [], map}
use Rattle.rules.specs.Statements.{Statement}
use Rattle.rules.specs.Design.{design}
use Rattle.rules.specs.Session.{Rename, rename, plain_session}
use Rattle.rules.specs.Layout.{Memory, layout, Reachable}
use Rattle.rules.specs.Text.{text_from}
use Rattle.admitted.specs.Holds.{no-renames, Holds}
use Rattle.soundness.specs.ReadLaws.{read-admitted}
use Rattle.written.specs.TextLaws.{any-read}
use Rattle.theorems.specs.StandingLaws.{allowed-session, session-allowed}

pub holds-reachable : {m : Memory} {ss : List Statement} {rs : List Rename} → Holds m ss rs → Reachable m
holds-reachable {m} {ss} {rs} h =
    record {
      file = text_from [] ss;
      statements = ss;
      reads = any-read ss h.admitted h.closes;
      calls = map rename rs;
      leaves = ap (layout ss) (session-allowed (design ss) h.allowed) ∙ h.is;
    }

-- and back: the statements that the text gives, and the renames that stand
pub record Held (m : Memory) : Type 0 where
  pub statements : List Statement
  pub renames : List Rename
  pub holds : Holds m statements renames

pub reachable-holds : {m : Memory} → Reachable m → Held m
reachable-holds {m} l =
    let a = read-admitted l.file l.statements l.reads in
    record {
      statements = l.statements;
      renames = (plain_session (design l.statements) [] l.calls).1;
      holds = record { admitted = a.0; closes = a.1; allowed = allowed-session (design l.statements) l.calls [] no-renames; is = l.leaves };
    }
