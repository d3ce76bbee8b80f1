-- By the four cases of a byte.
use mathlib.Core.Path.{refl}
use Rattle.plain.specs.Put.{put-by}
use Rattle.plain.proofs.ByteLaws.{low-kept, low-line-end, low-tab, low-octal}
use Rattle.plain.proofs.put_low.Goals as goal

pub store-requires : goal.store-requires
store-requires c = rw (low-kept _ c.if-b-ge32.true) at c.requires

pub returns-then-b-ge32 : goal.returns-then-b-ge32
returns-then-b-ge32 c = put-by (low-kept _ c.if-b-ge32.true) c.store.ensures refl

pub store-requires-then-b-eq10 : goal.store-requires-then-b-eq10
store-requires-then-b-eq10 c = rw (low-line-end _ c.if-b-eq10.true) at c.requires

pub returns-then-b-eq10 : goal.returns-then-b-eq10
returns-then-b-eq10 c = put-by (low-line-end _ c.if-b-eq10.true) c.store-then-b-eq10.ensures refl

pub store-requires-then-b-eq9 : goal.store-requires-then-b-eq9
store-requires-then-b-eq9 c = rw (low-tab _ c.if-b-eq9.true) at c.requires

pub returns-then-b-eq9 : goal.returns-then-b-eq9
returns-then-b-eq9 c = put-by (low-tab _ c.if-b-eq9.true) c.store-then-b-eq9.ensures refl

pub store-requires-2 : goal.store-requires-2
store-requires-2 c = rw (low-octal _ c.if-b-ge32.false c.if-b-eq10.false c.if-b-eq9.false) at c.requires

pub returns : goal.returns
returns c =
    let if1 = c.if-b-ge32 in
    let if2 = c.if-b-eq10 in
    let if3 = c.if-b-eq9 in
    let stored = c.store-2 in
    put-by (low-octal _ if1.false if2.false if3.false) stored.ensures refl
