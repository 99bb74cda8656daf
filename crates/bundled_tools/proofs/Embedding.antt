-- The parts of an embedded text, written one behind another.
use Rattle.std.proofs.Common.{◌≡◌, ◌∙◌, ap, sym, refl, ℕ, List, [], ◌∷◌, ◌++◌, Result, Ok, Err, append_assoc}
use Rattle.std.specs.Prelude.{codes, flat_map, OnOk}
use Rattle.cm_base.specs.Derived.{embedded, escaped, module_of}
use Rattle.bundled_tools.specs.Lines.{module_name}
use Rattle.bundled_tools.specs.Embedding.{head_text, string_text, embedded_text}

-- the structure, the module's name, the value's name, and what is between them
head_parts : (start one two three four end value unit : List ℕ)
    → one ≡ start ++ codes "structure " → two ≡ one ++ module_name unit → three ≡ two ++ codes " = struct val "
    → four ≡ three ++ value → end ≡ four ++ codes " = \"" → end ≡ start ++ head_text value unit
unfolding head_text
head_parts start one two three four end value unit a b c d e =
    e ∙ ap (λ (x : List ℕ). x ++ codes " = \"") (d ∙ ap (λ (x : List ℕ). x ++ value)
    (c ∙ ap (λ (x : List ℕ). x ++ codes " = struct val ") (b ∙ ap (λ (x : List ℕ). x ++ module_name unit) a)))
    ∙ simp append_assoc

-- .. as far as they are written
pub head_written : {E : Type 0} (r : Result (Unit {0}) E) (start one two three four end value unit v u : List ℕ)
    → u ≡ unit → v ≡ value → one ≡ start ++ codes "structure " → two ≡ one ++ module_name u
    → three ≡ two ++ codes " = struct val " → four ≡ three ++ v → OnOk r (end ≡ four ++ codes " = \"")
    → OnOk r (end ≡ start ++ head_text value unit)
head_written (Ok done) start one two three four end value unit v u p q a b c d e =
    head_parts start one two three four end value unit a (b ∙ ap (λ (x : List ℕ). one ++ module_name x) p) c
    (d ∙ ap (λ (x : List ℕ). three ++ x) q) e
head_written (Err fault) start one two three four end value unit v u p q a b c d e = e

-- what stands before the string, the string, and the end
embedded_parts : (start one two end value unit input : List ℕ)
    → one ≡ start ++ head_text value unit → two ≡ one ++ string_text input → end ≡ two ++ (codes "\" end" ++ 10 ∷ [])
    → end ≡ start ++ embedded_text value unit input
unfolding embedded_text head_text string_text module_name
embedded_parts start one two end value unit input a b c =
    c ∙ ap (λ (x : List ℕ). x ++ (codes "\" end" ++ 10 ∷ [])) (b ∙ ap (λ (x : List ℕ). x ++ string_text input) a)
    ∙ simp append_assoc

-- .. as far as they are written
pub embedded_written : {E : Type 0} (r : Result (Unit {0}) E) (start one two end value unit input i : List ℕ)
    → i ≡ input → one ≡ start ++ head_text value unit → two ≡ one ++ string_text i
    → OnOk r (end ≡ two ++ (codes "\" end" ++ 10 ∷ [])) → OnOk r (end ≡ start ++ embedded_text value unit input)
embedded_written (Ok done) start one two end value unit input i p a b c =
    embedded_parts start one two end value unit input a (b ∙ ap (λ (x : List ℕ). one ++ string_text x) p) c
embedded_written (Err fault) start one two end value unit input i p a b c = c
