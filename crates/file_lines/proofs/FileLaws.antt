-- The lines of a file so far, and where they end.
-- Assumes nothing.
use Prim.Native.Nat.{ℕ, zero-le, ◌-◌, ◌≤◌, ◌<◌}
use mathlib.Core.Path.{◌≡◌, refl, sym, ap, ◌∙◌, subst}
use mathlib.Core.Bool.{Bool, true, false, cond}
use mathlib.Core.List.{List, [], ◌∷◌, reverse, reverse-reverse}
use native.Mathlib.Omega.{arith}
use lib.Dec.{ltb}
use Rattle.std.specs.Prelude.{Some, None, Ok, Err, Result, Option as Optional}
use lib.ListN.{length, drop, drop_of_length-le}
use borrow.Author.Tests.{ltb-false}
use Rattle.rules.specs.Lines as rules
use Rattle.rules.specs.Lines.{lines_from, lines}
use Rattle.rules.specs.Judgement.{Past}
use Rattle.rules.specs.Reading as reading
use Rattle.rules.specs.Tokens.{tokens, tokens_from}
use Rattle.rules.specs.Reading.{lexed, outcome, finish, next, read_lines, read_any}
use Rattle.rules.specs.Quick.{read_until, settles}
use Rattle.rules.specs.Layout.{empty, memory}
use Rattle.scanner.specs.Class.{in_class}
use Rattle.scanner.specs.Runs.{end_of}
use Rattle.scanner.specs.Lines.{line_from}
use Rattle.lists.specs.Tests.{by-test, by_cond}
use Rattle.scanner.specs.declared.lines.Line.{Line}
use Rattle.scanner.proofs.RunLaws.{end_of-low}
use Rattle.scanner.proofs.LineLaws.{lines-from, line_low, line-high, line-next}
use Rattle.context.specs.Place.{place_of, closes_at}
use Rattle.context.specs.Sizes.{sums_of}
use Rattle.context.specs.declared.place.Place.{Place}
use Rattle.context.specs.declared.sizes.Sizes.{Sizes}
use Rattle.context.specs.declared.sizes.Standing.{Standing}
use Rattle.context.proofs.PlaceLaws.{closes-place}
use Rattle.admitted.specs.Admitted.{admitted}
use Rattle.netlist.specs.Laid.{rooms_of, Laid}
use Rattle.goal.specs.Settled.{stop_of}
use Rattle.numbers.specs.declared.kinds.ModuleNumber.{ModuleNumber}
use Rattle.netlist.specs.Tables.{Tables}
use Rattle.netlist.specs.declared.results.Refused.{Refused}
use Rattle.layout.specs.Put.{tables_of}
use Rattle.reading_step.specs.Steps.{line_of, LineFits, Goes, StepIs, StepAs}
use Rattle.reading_step.proofs.StepLaws.{done-stands}
use Rattle.file_lines.specs.Lines.{read_to, Reached, Before, finish_of, Landed}

-- ---- a reading that ends nowhere early

never-by : (more early : Past → reading.Answer) → ((q : Past) → early q ≡ more q) → (ss : Past) (o : reading.Outcome) → next early ss o ≡ next more ss o
unfolding next
never-by more early f ss reading.skipped = f ss
never-by more early f ss (reading.states s) = f (s ∷ ss)
never-by more early f ss (reading.Outcome.refused n p) = refl

until-never : (stop : Past → Bool) → ((q : Past) → stop q ≡ false) → (size : ℕ) (ls : List rules.Line) (ss : Past) → read_until stop size ls ss ≡ read_lines size ls ss
unfolding read_until read_lines
until-never stop never size [] ss = refl
until-never stop never size (l ∷ ls) ss =
    never-by (read_lines size ls) (λ q. cond (stop q) (reading.accepted (reverse q)) (read_until stop size ls q)) (λ q. rw (never q) (until-never stop never size ls q)) ss (outcome ss l)

-- behind the last byte stands a line without a token
last-until : (stop : Past → Bool) (size at : ℕ) (ss : Past) → stop ss ≡ false → read_until stop size (lines_from at []) ss ≡ finish size ss
unfolding read_until lines_from outcome tokens tokens_from lexed next
last-until stop size at ss on = rw on

-- ---- the lines

module _ (f : List ℕ) (at : ℕ) (l : Line) (is : l ≡ line_from f at) where
  fits : (scratch : List ℕ) → at ≤ length f → length f ≤ 32768 → length scratch ≡ 43008 → LineFits f l scratch
  unfolding line_from
  fits scratch h file s =
      subst (λ (x : Line). LineFits f x scratch) (sym is)
      (record { low = line_low f at; high = line-high f at h; file = file; scratch-long = s })

  -- the next line starts behind, in the file
  next_low : at < length f → at < (line_from f at).next
  unfolding line_from
  next_low h =
      let z : ℕ = end_of (in_class 1 14) f at in
      by_cond (λ (k : ℕ). at < k) (ltb z (length f)) (λ e. omega (arith, end_of-low (in_class 1 14) f at)) (λ e. omega (arith, ltb-false z (length f) e))

  on : at < length f → at < l.next
  on h = rw is (next_low h)

  inside : at ≤ length f → l.next ≤ length f
  inside h = rw is (line-next f at h)

  module _ (stop : Past → Bool) (size : ℕ) where
    -- the lines behind it are those from there on
    behind : (ss : Past) → stop ss ≡ false → read_until stop size (cond (line_from f at).ended (lines_from (line_from f at).next (drop (line_from f at).next f)) []) ss
        ≡ read_until stop size (lines_from (line_from f at).next (drop (line_from f at).next f)) ss
    unfolding line_from read_until
    behind ss on =
        let z : ℕ = end_of (in_class 1 14) f at in
        by-test (ltb z (length f))
        (λ e. rw e)
        (λ e. let h : length f ≤ z = ltb-false z (length f) e in rw (e, drop_of_length-le f h) (sym (last-until stop size z ss on)))

    abbrev More : Past → reading.Answer
    More q = cond (stop q) (reading.accepted (reverse q)) (read_until stop size (cond l.ended (lines_from l.next (drop l.next f)) []) q)

    lines_at : (ss : Past) → read_until stop size (lines_from at (drop at f)) ss ≡ next More ss (outcome ss (line_of f l))
    unfolding read_until line_of line_from
    lines_at ss = rw is (ap (λ (ls : List rules.Line). read_until stop size ls ss) (lines-from f at))

    module _ (ss ss' : Past) (go : (more : Past → reading.Answer) → next more ss (outcome ss (line_of f l)) ≡ more ss') where
      pub lines_more : stop ss' ≡ false → read_until stop size (lines_from at (drop at f)) ss ≡ read_until stop size (lines_from l.next (drop l.next f)) ss'
      lines_more on = lines_at ss ∙ go More ∙ rw (on, is) (behind ss' on)

      pub lines-settled : stop ss' ≡ true → read_until stop size (lines_from at (drop at f)) ss ≡ reading.accepted (reverse ss')
      lines-settled off = lines_at ss ∙ go More ∙ rw off

    pub lines-stop : (n p : ℕ) (ss : Past) → outcome ss (line_of f l) ≡ reading.Outcome.refused n p
        → read_until stop size (lines_from at (drop at f)) ss ≡ reading.refused n p
    unfolding next
    lines-stop n p ss e = lines_at ss ∙ ap (next More ss) e

-- ---- the loop over the lines

-- b is the test's answer of any statements that lie so in the tables
abbrev Asked : (Past → Bool) → Place → Tables → Bool → Type 0
Asked stop p t b = (ss : Past) → place_of ss ≡ p → Laid (rooms_of ss) t.names t.rows → b ≡ stop ss

pub before : {stop : Past → Bool} {f scratch : List ℕ} {p : Place} {u : Sizes} {t : Tables} (at : ℕ) (l : Line) → Reached stop f scratch p u t at → l ≡ line_from f at → Before stop f scratch p u t l
unfolding line_from
before {stop} {f} {scratch} {p} {u} {t} at l r e =
    let q : at ≡ l.start = sym (ap (λ (x : Line). x.start) e) in
    record { reached = subst (Reached stop f scratch p u t) q r; is = subst (λ (k : ℕ). l ≡ line_from f k) q e }

-- fewer bytes are left behind it
pub less :
    {stop : Past → Bool} {f scratch : List ℕ} {p : Place} {u : Sizes} {t : Tables} {l : Line} → Before stop f scratch p u t l → (l' : Line) → l.start < length f → l' ≡ line_from f l.next →
    length f - l'.start < length f - l.start
unfolding line_from
less {f = f} {l = l} b l' h e = omega (arith, on f l.start l b.is h, ap (λ (x : Line). x.start) e)

pub reached-start :
    (stop : Past → Bool) (f scratch : List ℕ) (p : Place) (u : Sizes) (t : Tables) →
    (length f ≤ 32768) × (length scratch ≡ 43008) × (t ≡ tables_of (memory empty 0)) →
    p ≡ place_of [] → u ≡ sums_of [] → stop [] ≡ false → Reached stop f scratch p u t 0
unfolding rooms_of lines admitted
reached-start stop f scratch p u t h ep eu on =
    record {
      inside = zero-le;
      file = h.0;
      scratch-long = h.1;
      past = [];
      done = record { admits = refl; place_is = sym ep; sums-are = sym eu; tables-are = h.2 };
      on = on;
      rest = refl;
    }

module _ {stop : Past → Bool} {f scratch : List ℕ} {p : Place} {u : Sizes} {t : Tables} {at : ℕ} (r : Reached stop f scratch p u t at) where
  pub reached-fits : (l : Line) → l ≡ line_from f at → LineFits f l scratch
  reached-fits l is = fits f at l is scratch r.inside r.file r.scratch-long

  module _ (l : Line) (is : l ≡ line_from f at) (x : Result Standing Refused) (t' : Tables) (st : StepAs f l p u t t' x) where
    module _ (y : Standing) (e : x ≡ Ok y) (b : Bool) (asked : Asked stop y.place t' b) where
      goes : Goes r.past (line_of f l) y.place y.sums t'
      goes = subst (StepIs r.past (line_of f l) t') e (st r.past r.done)

      answered : b ≡ stop goes.past
      answered = asked goes.past goes.done.place_is (done-stands goes.done).laid

      -- a turn of the loop
      pub reached-more : (scratch' : List ℕ) → b ≡ false → length scratch' ≡ length scratch → Reached stop f scratch' y.place y.sums t' l.next
      reached-more scratch' eb ks =
          let g = goes in
          let on : stop g.past ≡ false = sym answered ∙ eb in
          record {
            inside = inside f at l is r.inside;
            file = r.file;
            scratch-long = ks ∙ r.scratch-long;
            past = g.past;
            done = g.done;
            on = on;
            rest = r.rest ∙ lines_more f at l is stop (length f) r.past g.past g.goes on;
          }

      -- it is left where the test holds
      pub landed-settled : b ≡ true → Landed (read_to stop f) t' (Ok y)
      landed-settled eb =
          let g = goes in
          rw (r.rest ∙ lines-settled f at l is stop (length f) r.past g.past g.goes (sym answered ∙ eb))
          (rw (reverse-reverse g.past) g.done)

    -- it is left where a line is refused
    pub landed-stop : (y : Refused) → x ≡ Err y → Landed (read_to stop f) t' (Err y)
    landed-stop y e =
        let o : outcome r.past (line_of f l) ≡ reading.Outcome.refused y.number y.place = subst (StepIs r.past (line_of f l) t') e (st r.past r.done) in
        rw (r.rest ∙ lines-stop f at l is stop (length f) y.number y.place r.past o) refl

  -- it is left at the file's end
  finish-landed : (size : ℕ) → Landed (finish size r.past) t (finish_of size (record { place = p; sums = u }))
  unfolding finish finish_of
  finish-landed size =
      by-test (closes_at p)
      (λ e. rw (closes-place r.past, r.done.place_is, e) (rw (reverse-reverse r.past) r.done))
      (λ e. rw (closes-place r.past, r.done.place_is, e) refl)

  pub landed-end : (a : Result Standing Refused) → length f ≤ at → a ≡ finish_of (length f) (record { place = p; sums = u }) → Landed (read_to stop f) t a
  landed-end a h ea =
      let q : read_to stop f ≡ finish (length f) r.past =
      r.rest ∙ ap (λ (s : List ℕ). read_until stop (length f) (lines_from at s) r.past) (drop_of_length-le f {i = at} h) ∙ last-until stop (length f) at r.past r.on in
      rw (q, ea) (finish-landed (length f))

-- ---- no goal

pub no-goal : (n f : List ℕ) → read_to (stop_of None n) f ≡ read_any f
unfolding stop_of read_any
no-goal n f = until-never (stop_of None n) (λ q. refl) (length f) (lines f) []

-- no statement settles anything
pub none-settled : (g : Optional ModuleNumber) (n : List ℕ) → stop_of g n [] ≡ false
unfolding stop_of settles
none-settled (Some m) n = refl
none-settled None n = refl
