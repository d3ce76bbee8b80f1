-- Each branch is one of the rules' cases.
use borrow.Author.Tests.{eq-eqb, ne_eqb, lt-ltb, le-ltb}
use Rattle.rules.specs.Text.{escaped}
use Rattle.constant_text.proofs.put_escaped.Goals as goal

pub returns-then-b-eq34 : goal.returns-then-b-eq34
unfolding escaped
returns-then-b-eq34 c = rw (eq-eqb _ _ c.if-b-eq34.true) c.put_bytes.ensures

pub returns-then-b-eq92 : goal.returns-then-b-eq92
unfolding escaped
returns-then-b-eq92 c = rw (ne_eqb _ _ c.if-b-eq34.false, eq-eqb _ _ c.if-b-eq92.true) c.put_bytes-then-b-eq92.ensures

pub returns-then-b-eq10 : goal.returns-then-b-eq10
unfolding escaped
returns-then-b-eq10 c =
    let if1 = c.if-b-eq34 in
    let if2 = c.if-b-eq92 in
    let if3 = c.if-b-eq10 in
    let put-bytes3 = c.put_bytes-then-b-eq10 in
    rw (ne_eqb _ _ if1.false, ne_eqb _ _ if2.false, eq-eqb _ _ if3.true) put-bytes3.ensures

pub returns-then-b-eq9 : goal.returns-then-b-eq9
unfolding escaped
returns-then-b-eq9 c =
    let if1 = c.if-b-eq34 in
    let if2 = c.if-b-eq92 in
    let if3 = c.if-b-eq10 in
    let if4 = c.if-b-eq9 in
    let put-bytes4 = c.put_bytes-then-b-eq9 in
    rw (ne_eqb _ _ if1.false, ne_eqb _ _ if2.false, ne_eqb _ _ if3.false, eq-eqb _ _ if4.true)
    put-bytes4.ensures

pub returns-then-b-lt32 : goal.returns-then-b-lt32
unfolding escaped
returns-then-b-lt32 c =
    let if1 = c.if-b-eq34 in
    let if2 = c.if-b-eq92 in
    let if3 = c.if-b-eq10 in
    let if4 = c.if-b-eq9 in
    let if5 = c.if-b-lt32 in
    let put-bytes5 = c.put_bytes-then-b-lt32 in
    rw
    (ne_eqb _ _ if1.false, ne_eqb _ _ if2.false, ne_eqb _ _ if3.false, ne_eqb _ _ if4.false, lt-ltb _ _ if5.true)
    put-bytes5.ensures

pub returns : goal.returns
unfolding escaped
returns c =
    let if1 = c.if-b-eq34 in
    let if2 = c.if-b-eq92 in
    let if3 = c.if-b-eq10 in
    let if4 = c.if-b-eq9 in
    let if5 = c.if-b-lt32 in
    let put_byte = c.put_byte in
    rw
    (ne_eqb _ _ if1.false, ne_eqb _ _ if2.false, ne_eqb _ _ if3.false, ne_eqb _ _ if4.false, le-ltb _ _ if5.false)
    put_byte.ensures
