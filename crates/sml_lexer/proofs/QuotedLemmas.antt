-- Strings, an item at a time.
use Rattle.std.proofs.Common.{◌≡◌, ◌≢◌, ℕ, zero, suc, ◌+◌, ◌-◌, ◌<◌, ◌≤◌, Bool, true, false, ◌==◌, ◌&&◌, nat_le, List, [], ◌∷◌, ◌++◌, length, get_or, take, drop, Option, Some, None, IfSome, refl, sym, ap, ap₂, ◌∙◌, arith, inl, inr, append_assoc, append-nil}
use Rattle.std.proofs.lemmas.Bool.{and_parts, cases_Bool, cases_lt}
use Rattle.std.proofs.lemmas.Bool.Decides.{nat_tests}
use Rattle.std.proofs.lemmas.List.{get_or_past}
use Rattle.std.specs.List.{prefix_len}
use Rattle.std.specs.Option.{option_map}
use Rattle.std.specs.Str.Parse.{digits_value}
use Rattle.sml_lexer.specs.declared.quoted.Item.{Item}
use Rattle.sml_lexer.specs.Classes.{is_digit, is_blank}
use Rattle.sml_lexer.specs.Quoted.{simple_escape, control_escape, decimal_escape, gap_item, escape_item, item, item_bytes, longer, item_and_rest, items_after}
use Rattle.sml_lexer.proofs.BytesLemmas.{within_class}

-- an item takes at least one byte, and no more than there are
abbrev pub FitsIn : List ℕ → Option Item → Type 0
FitsIn text found = IfSome found (λ i. (1 ≤ i.len) × (i.len ≤ length text))

-- a byte that isn't 0 was read inside the text
within_byte : (text : List ℕ) (i : ℕ) → 0 < get_or text i 0 → i < length text
within_byte text i h = elim (cases_lt i (length text)) [ inl within ↦ within | inr past ↦ absurd (omega (arith, get_or_past text i 0 past)) ]

control-within : (text : List ℕ) → FitsIn text (control_escape (get_or text 2 0))
control-within text =
    elim (cases_Bool (nat_le 64 (get_or text 2 0) && nat_le (get_or text 2 0) 95)) [
      | inl e ↦ let far : 64 ≤ get_or text 2 0 = grind (arith, nat_tests) in
          let within : 2 < length text = within_byte text 2 (omega arith) in
          rw e (omega arith, omega arith)
      | inr e ↦ rw e tt
    ]

decimal-within : (text : List ℕ) → FitsIn text (decimal_escape text)
unfolding decimal_escape
decimal-within text =
    let digits : Bool = (is_digit (get_or text 1 0) && is_digit (get_or text 2 0)) && is_digit (get_or text 3 0) in
    let small : Bool = nat_le (digits_value 10 (take 3 (drop 1 text))) 255 in
    elim (cases_Bool (digits && small)) [
      | inl e ↦ let last : is_digit (get_or text 3 0) ≡ true =
          (and_parts (is_digit (get_or text 1 0) && is_digit (get_or text 2 0)) (is_digit (get_or text 3 0)) (and_parts digits small e).0).1 in
          let within : 3 < length text = within_class is_digit text 3 refl last in
          rw e (omega arith, omega arith)
      | inr e ↦ rw e tt
    ]

gap-within : (text : List ℕ) → FitsIn text (gap_item text)
unfolding gap_item
gap-within text =
    let n = prefix_len is_blank (drop 1 text) in
    elim (cases_Bool (get_or text (n + 1) 0 == 92)) [
      | inl e ↦ let within : n + 1 < length text = within_class (λ c. c == 92) text (n + 1) refl e in
          rw e (omega arith, omega arith)
      | inr e ↦ rw e tt
    ]

two_bytes : (text : List ℕ) (b : Option ℕ) → 1 < length text → FitsIn text (option_map (λ b. record { byte = Some b; len = 2 }) b)
two_bytes text None h = tt
two_bytes text (Some b) h = (omega arith, omega arith)

-- no escape stands past the end
none_past : (text : List ℕ) → length text ≤ 1 → simple_escape (get_or text 1 0) ≡ None
none_past text h = rw (get_or_past text 1 0 h) refl

simple-within : (text : List ℕ) → FitsIn text (option_map (λ b. record { byte = Some b; len = 2 }) (simple_escape (get_or text 1 0)))
simple-within text =
    elim (cases_lt 1 (length text)) [
      | inl within ↦ two_bytes text (simple_escape (get_or text 1 0)) within
      | inr past ↦ rw (none_past text past) tt
    ]

pub escape_item-within : (text : List ℕ) → FitsIn text (escape_item text)
unfolding escape_item
escape_item-within text =
    let c = get_or text 1 0 in
    elim (cases_Bool (c == 94)) [
      | inl e ↦ rw e (control-within text)
      | inr e ↦ elim (cases_Bool (is_digit c)) [
        | inl d ↦ rw (e, d) (decimal-within text)
        | inr d ↦ elim (cases_Bool (is_blank c)) [
          | inl b ↦ rw (e, d, b) (gap-within text)
          | inr b ↦ rw (e, d, b) (simple-within text)
        ]
      ]
    ]

pub ruleset escapes = (escape_item-within)

pub longer-longer : (xs ys : List ℕ) (m n : ℕ) (s : Option (List ℕ × ℕ)) → longer xs m (longer ys n s) ≡ longer (xs ++ ys) (m + n) s
longer-longer xs ys m n None = refl
longer-longer xs ys m n (Some s) = ap Some (ap₂ (λ (bytes : List ℕ) (k : ℕ). (bytes, k)) (sym (append_assoc xs ys s.0)) (omega arith))

pub longer-none : (s : Option (List ℕ × ℕ)) → longer [] 0 s ≡ s
longer-none None = refl
longer-none (Some s) = let same : 0 + s.1 ≡ s.1 = omega arith in ap (λ n. Some (s.0, n)) same

-- what comes after so many bytes is what comes at the front of the rest
pub items_after-drop : (passed : ℕ) (text : List ℕ) → passed ≤ length text → items_after passed text ≡ longer [] passed (items_after 0 (drop passed text))
items_after-drop zero text h = sym (longer-none (items_after 0 text))
items_after-drop (suc passed) [] h = absurd (omega arith)
items_after-drop (suc passed) (b ∷ bs) h =
    let more : 1 + passed ≡ suc passed = omega arith in
    ap (longer [] 1) (items_after-drop passed bs (omega arith))
    ∙ longer-longer [] [] 1 passed (items_after 0 (drop passed bs))
    ∙ ap (λ n. longer [] n (items_after 0 (drop passed bs))) more

-- an item, and the items after it
items-item : (text : List ℕ) (i : Item) → item text ≡ Some i → 1 ≤ i.len → i.len ≤ length text
    → items_after 0 text ≡ longer (item_bytes i.byte) i.len (items_after 0 (drop i.len text))
items-item [] i e some within = absurd (omega arith)
items-item (b ∷ bs) i e some within =
    let more : suc (i.len - 1) ≡ i.len = omega arith in
    let len : 1 + (i.len - 1) ≡ i.len = omega arith in
    ap (λ (found : Option Item). item_and_rest found b (λ passed. items_after passed bs)) e
    ∙ ap (longer (item_bytes i.byte) 1) (items_after-drop (i.len - 1) bs (omega arith))
    ∙ longer-longer (item_bytes i.byte) [] 1 (i.len - 1) (items_after 0 (drop (i.len - 1) bs))
    ∙ ap₂ (λ (bytes : List ℕ) (n : ℕ). longer bytes n (items_after 0 (drop (i.len - 1) bs))) (append-nil (item_bytes i.byte)) len
    ∙ ap (λ (n : ℕ). longer (item_bytes i.byte) i.len (items_after 0 (drop n (b ∷ bs)))) more

-- the items so far and one more
pub items-step : (out text : List ℕ) (len : ℕ) (all : Option (List ℕ × ℕ)) (i : Item) → longer out len (items_after 0 text) ≡ all
    → item text ≡ Some i → 1 ≤ i.len → i.len ≤ length text
    → longer (out ++ item_bytes i.byte) (len + i.len) (items_after 0 (drop i.len text)) ≡ all
items-step out text len all i so_far e some within =
    sym (longer-longer out (item_bytes i.byte) len i.len (items_after 0 (drop i.len text)))
    ∙ ap (longer out len) (sym (items-item text i e some within)) ∙ so_far

-- where no item stands, a quote ends the string, and anything else ends none
pub items-end : (text : List ℕ) → item text ≡ None → get_or text 0 0 ≡ 34 → items_after 0 text ≡ Some ([], 1)
items-end [] e h = absurd (omega arith)
items-end (b ∷ bs) e h = ap (λ (found : Option Item). item_and_rest found b (λ passed. items_after passed bs)) e ∙ rw h refl

pub items-none : (text : List ℕ) → item text ≡ None → get_or text 0 0 ≢ 34 → items_after 0 text ≡ None
items-none [] e h = refl
items-none (b ∷ bs) e h =
    let other : (b == 34) ≡ false = grind (arith, nat_tests) in
    ap (λ (found : Option Item). item_and_rest found b (λ passed. items_after passed bs)) e ∙ rw other refl

pub ruleset ends = (items-end, items-none)
