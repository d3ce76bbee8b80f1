-- The passes over the statements of a file write the text of its design with the names now.
-- Assumes nothing.
use Prim.Native.Nat.{ℕ, ◌+◌}
use Rattle.std.proofs.Common.{◌∙◌}
use Rattle.std.specs.Prelude.{◌≡◌}
use Rattle.std.proofs.Math.Path.{refl, sym, ap, ap₂}
use mathlib.Core.List.{List, [], ◌∷◌, ◌++◌, map, map-append, flat_map}
use Rattle.rules.specs.Tokens.{Name}
use Rattle.rules.specs.Statements.{Statement, module-stmt, memory-stmt, proc-stmt, end-stmt, an_attribute, a_module, a_wire, a_memory, a_cell, a_process, is, statements_open}
use Rattle.rules.specs.Signals.{Wires}
use Rattle.rules.specs.Shapes.{Scope, in_process}
use Rattle.rules.specs.Judgement.{until}
use Rattle.rules.specs.Design.{Setting, setting_in, object, Item, items, blocks, objects_in, cell_of, lines_in, process_of, module_of, design, design_open}
use Rattle.rules.specs.Session.{Rename, now}
use Rattle.rules.specs.Text.{text}
use Rattle.lists.specs.Tests.{by-test}
use Rattle.context.specs.Forms.{by_form}
use Rattle.modules.specs.DesignLaws.{only-attribute, items-until}
use Rattle.modules.specs.Now.{numbered, wire_now, module_now, design_now}
use Rattle.modules.specs.NowLaws.{now-is}
use Rattle.canonical.specs.Nesting.{settings}
use Rattle.canonical.specs.Fine.{wires_in}
use Rattle.module_text.specs.Blocks.{plain_line, wire_text, memory_text, cell_text, lines_text, process_text, body_text, module_text, design_text}
use Rattle.module_text.specs.BlockLaws.{text-modules}
use Rattle.module_text.specs.LineLaws.{plain-line}
use Rattle.module_text.specs.Passes.{object_lines, print_wire, print_memory, print_cell, step_lines, print_process, body_lines, print_module, file_text}
use Rattle.module_text.specs.PassLaws.{attributes-lines, texts, texts-each, texts-first, is-attribute, Steps, objects-text, wire-text, cell-text, lines-here, parameters-text, connections-text, module_in, body_now, wires-seen, autoidx-text, Lead}

-- ---- memories

pub memories-text : (ws : Wires) (n : ℕ) (at : List Setting) (ss : List Statement) → object_lines a_memory (print_memory ws) n (settings at) ss ≡ flat_map memory_text (flat_map (objects_in (λ c. c.memories)) (items at ss))
unfolding texts print_memory memory_text statements_open design_open
memories-text ws n at ss =
    objects-text a_memory (print_memory ws) (flat_map (objects_in (λ c. c.memories))) (λ i. memory_text) refl
    (λ n at. by_form (Steps a_memory (print_memory ws) (flat_map (objects_in (λ c. c.memories))) (λ i. memory_text) n at)
    (λ i ss. refl) (λ x c ss. refl) (λ x ss. refl) (λ x c ss. refl) (λ w x ss. refl)
    (λ m x ss. ap (λ (l : List ℕ). l ++ texts (λ i. memory_text) (n + 1) (flat_map (objects_in (λ c. c.memories)) (items [] ss))) (ap₂ ◌++◌ (attributes-lines 1 ws at) (plain-line 1 ws (memory-stmt m x) refl)))
    (λ t x ss. refl) (λ o x c ss. refl) (λ x g ss. refl) (λ g h ss. refl) (λ x ss. refl) (λ p xs ss. refl) (λ ss. refl)) n at ss
    ∙ texts-each memory_text n (flat_map (objects_in (λ c. c.memories)) (items at ss))

-- ---- wires, each with its number and its name now

pub wires-text : (rs : List Rename) (m : ℕ) (ws : Wires) (ss : List Statement) → object_lines a_wire (print_wire rs m ws) 0 [] ss ≡ flat_map wire_text (numbered (wire_now rs m) (flat_map (objects_in (λ c. c.wires)) (items [] ss)))
unfolding texts statements_open design_open
wires-text rs m ws ss =
    objects-text a_wire (print_wire rs m ws) (flat_map (objects_in (λ c. c.wires))) (λ i o. wire_text (wire_now rs m i o)) refl
    (λ n at. by_form (Steps a_wire (print_wire rs m ws) (flat_map (objects_in (λ c. c.wires))) (λ i o. wire_text (wire_now rs m i o)) n at)
    (λ i ss. refl) (λ x c ss. refl) (λ x ss. refl) (λ x c ss. refl)
    (λ w x ss. ap (λ (l : List ℕ). l ++ texts (λ i o. wire_text (wire_now rs m i o)) (n + 1) (flat_map (objects_in (λ c. c.wires)) (items [] ss))) (wire-text rs m ws n at w x ss))
    (λ y x ss. refl) (λ t x ss. refl) (λ o x c ss. refl) (λ x g ss. refl) (λ g h ss. refl) (λ x ss. refl) (λ p xs ss. refl) (λ ss. refl)) 0 [] ss
    ∙ texts-first wire_text (wire_now rs m) (flat_map (objects_in (λ c. c.wires)) (items [] ss))

-- ---- cells

pub cells-text : (ws : Wires) (n : ℕ) (at : List Setting) (ss : List Statement) → object_lines a_cell (print_cell ws) n (settings at) ss ≡ flat_map (cell_text ws) (flat_map cell_of (blocks (is a_cell) (items at ss)))
unfolding texts statements_open design_open
cells-text ws n at ss =
    objects-text a_cell (print_cell ws) (λ is'. flat_map cell_of (blocks (is a_cell) is')) (λ i. cell_text ws) refl
    (λ n at. by_form (Steps a_cell (print_cell ws) (λ is'. flat_map cell_of (blocks (is a_cell) is')) (λ i. cell_text ws) n at)
    (λ i ss. refl) (λ x c ss. refl) (λ x ss. refl) (λ x c ss. refl) (λ w x ss. refl) (λ m x ss. refl)
    (λ t x ss. ap (λ (l : List ℕ). l ++ texts (λ i. cell_text ws) (n + 1) (flat_map cell_of (blocks (is a_cell) (items [] ss)))) (cell-text ws n at t x ss))
    (λ o x c ss. refl) (λ x g ss. refl) (λ g h ss. refl) (λ x ss. refl) (λ p xs ss. refl) (λ ss. refl)) n at ss
    ∙ texts-each (cell_text ws) n (flat_map cell_of (blocks (is a_cell) (items at ss)))

-- ---- processes

steps-text : (ws : Wires) (ss : List Statement) (p : Scope) (k : ℕ) (at : List Setting) → step_lines ws p k (settings at) ss ≡ lines_text p ws (lines_in k (items at ss))
unfolding step_lines items lines_in lines_text
steps-text ws [] p k at = refl
steps-text ws (s ∷ ss) p k at =
    by-test (is an_attribute s)
    (λ e. rw (e, is-attribute s e, ← map-append) (steps-text ws ss p k (at ++ setting_in s)))
    (λ e. rw e (rw e at (lines-here ws p k at ss (λ p k. steps-text ws ss p k []) s e)))

process-text : (ws : Wires) (n : ℕ) (at : List Setting) (x : Name) (ss : List Statement) → print_process ws n (settings at) (proc-stmt x) ss ≡ process_text ws (object at x (lines_in 0 (until (λ j. is a_process j.statement) (items [] ss))))
unfolding print_process process_text statements_open
process-text ws n at x ss =
    ap₂ ◌++◌
    (ap₂ ◌++◌
    (ap₂ ◌++◌ (attributes-lines 1 ws at) (plain-line 1 ws (proc-stmt x) refl))
    (steps-text ws (until (is a_process) ss) in_process 0 []))
    (plain-line 1 ws end-stmt refl)
    ∙ ap (λ (is' : List Item). process_text ws (object at x (lines_in 0 is'))) (sym (items-until (is a_process) (λ s h. (only-attribute s h).no-process) [] ss))

pub processes-text : (ws : Wires) (n : ℕ) (at : List Setting) (ss : List Statement) → object_lines a_process (print_process ws) n (settings at) ss ≡ flat_map (process_text ws) (map process_of (blocks (is a_process) (items at ss)))
unfolding texts statements_open design_open
processes-text ws n at ss =
    objects-text a_process (print_process ws) (λ is'. map process_of (blocks (is a_process) is')) (λ i. process_text ws) refl
    (λ n at. by_form (Steps a_process (print_process ws) (λ is'. map process_of (blocks (is a_process) is')) (λ i. process_text ws) n at)
    (λ i ss. refl) (λ x c ss. refl) (λ x ss. refl) (λ x c ss. refl) (λ w x ss. refl) (λ m x ss. refl) (λ t x ss. refl)
    (λ o x c ss. refl) (λ x g ss. refl) (λ g h ss. refl)
    (λ x ss. ap (λ (l : List ℕ). l ++ texts (λ i. process_text ws) (n + 1) (map process_of (blocks (is a_process) (items [] ss)))) (process-text ws n at x ss))
    (λ p xs ss. refl) (λ ss. refl)) n at ss
    ∙ texts-each (process_text ws) n (map process_of (blocks (is a_process) (items at ss)))

-- ---- modules

pub body-text : (rs : List Rename) (m : ℕ) (ws : Wires) (ss : List Statement) → body_lines rs m ws ss ≡ body_text ws (body_now rs m (module_in (items [] ss)))
unfolding body_lines body_text
body-text rs m ws ss =
    ap₂ ◌++◌
    (ap₂ ◌++◌
    (ap₂ ◌++◌
    (ap₂ ◌++◌ (ap₂ ◌++◌ (parameters-text ws [] ss) (wires-text rs m ws ss)) (memories-text ws 0 [] ss))
    (cells-text ws 0 [] ss))
    (processes-text ws 0 [] ss))
    (connections-text ws [] ss)

module-text : (rs : List Rename) (m : ℕ) (at : List Setting) (x : Name) (ss : List Statement) → print_module rs m (settings at) (module-stmt x) ss ≡ module_text (module_now rs m (object at x (module_in (until (λ j. is a_module j.statement) (items [] ss)))))
unfolding print_module module_text module_now plain_line
module-text rs m at x ss =
    let b : List Statement = until (is a_module) ss in
    ap₂ ◌++◌
    (ap₂ ◌++◌
    (ap₂ ◌++◌ (attributes-lines 0 [] at) refl)
    (ap (λ (ws : Wires). body_lines rs m ws b) (wires-seen rs m b) ∙ body-text rs m (wires_in (body_now rs m (module_in (items [] b)))) b))
    refl
    ∙ ap (λ (is' : List Item). module_text (module_now rs m (object at x (module_in is')))) (sym (items-until (is a_module) (λ s h. (only-attribute s h).no-module) [] ss))

pub modules-text : (rs : List Rename) (ss : List Statement) → object_lines a_module (print_module rs) 0 [] ss ≡ flat_map module_text (numbered (module_now rs) (map module_of (blocks (is a_module) (items [] ss))))
unfolding texts statements_open design_open
modules-text rs ss =
    objects-text a_module (print_module rs) (λ is'. map module_of (blocks (is a_module) is')) (λ i o. module_text (module_now rs i o)) refl
    (λ m at. by_form (Steps a_module (print_module rs) (λ is'. map module_of (blocks (is a_module) is')) (λ i o. module_text (module_now rs i o)) m at)
    (λ i ss. refl) (λ x c ss. refl)
    (λ x ss. ap (λ (l : List ℕ). l ++ texts (λ i o. module_text (module_now rs i o)) (m + 1) (map module_of (blocks (is a_module) (items [] ss)))) (module-text rs m at x ss))
    (λ x c ss. refl) (λ w x ss. refl) (λ y x ss. refl) (λ t x ss. refl) (λ o x c ss. refl) (λ x g ss. refl) (λ g h ss. refl) (λ x ss. refl) (λ p xs ss. refl) (λ ss. refl)) 0 [] ss
    ∙ texts-first module_text (module_now rs) (map module_of (blocks (is a_module) (items [] ss)))

-- ---- the whole

-- THE WRITTEN TEXT of what a file's statements define, with the names now
pub text-file : (ss : List Statement) (rs : List Rename) → Lead (now (design ss) rs) → text (now (design ss) rs) ≡ file_text rs ss
unfolding file_text design_text design_now design
text-file ss rs h =
    text-modules (now (design ss) rs) h
    ∙ ap design_text (now-is (design ss) rs)
    ∙ ap₂ ◌++◌ (sym (autoidx-text ss)) (sym (modules-text rs ss))
