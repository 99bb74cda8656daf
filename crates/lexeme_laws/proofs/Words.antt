-- Identifiers and type variables are within their limits.
use Rattle.std.proofs.Common.{◌≡◌, ℕ, zero, suc, ◌+◌, ◌-◌, ◌<◌, ◌≤◌, Bool, true, false, ◌==◌, ◌&&◌, ◌||◌, nat_lt, nat_le, List, [], ◌∷◌, length, All, Option, Some, get_or, take, drop, refl, sym, arith, inl, inr, subst}
use Rattle.std.proofs.lemmas.Bool.{and_parts, cases_Bool, ltb-true}
use Rattle.std.proofs.lemmas.Bool.Decides.{nat_tests}
use Rattle.std.proofs.lemmas.List.{length-take-le}
use Rattle.std.proofs.lemmas.List.Sums.{prefix_len-le-length}
use Rattle.std.proofs.lemmas.List.Elements.{All-nil, All-cons, All-head, All-tail}
use Rattle.std.specs.List.{prefix_len, list_all}
use Rattle.sml_lexer.specs.declared.lexeme.LexemeKind.{LexemeKind}
use Rattle.sml_lexer.specs.declared.lexeme.LexemeKind.TheVariants as kind
use Rattle.sml_lexer.specs.Cuttings.{front_of}
use Rattle.sml_lexer.specs.Classes.{first, is_letter, is_name_byte, is_symbol_byte}
use Rattle.sml_lexer.specs.Names.{is_reserved, word_len, identifier_len, qualifier_len, parts_after, name_parts, joined_len, is_short, name_front, word_front, type_variable_front}
use Rattle.sml_lexer.proofs.BytesLemmas.{all_in_run, name_begins}
use Rattle.sml_lexer.proofs.NamesLemmas.{identifier-after_qualifier, no_identifier}
use Rattle.sml_lexer.proofs.FrontsLemmas.{identifier_len-within, qualifier_len-within}
use Rattle.lexeme_laws.specs.Limits.{is_printed, IsNameText, IsWithinLimits}

-- where a lexeme stands at the front of a text, it is within its limits
abbrev pub Shows : {F : Type 0} → (Option LexemeKind → ℕ → F) → F → Type 0
Shows of front = (k : LexemeKind) (n : ℕ) → front ≡ of (Some k) n → IsWithinLimits k

pub shows_kind : (k : LexemeKind) (n : ℕ) → IsWithinLimits k → Shows front_of (front_of (Some k) n)
shows_kind k n is other m same = let one : k ≡ other = cc in subst IsWithinLimits one is

-- ---- bytes of words

printed-between : (low high b : ℕ) → 33 ≤ low → high ≤ 126 → nat_le low b && nat_le b high ≡ true → is_printed b ≡ true
printed-between low high b least most h =
    let parts = and_parts (nat_le low b) (nat_le b high) h in
    let above : low ≤ b = let one = parts.0 in grind (arith, nat_tests) in
    let below : b ≤ high = let two = parts.1 in grind (arith, nat_tests) in
    let first : 33 ≤ b = omega arith in
    let second : b ≤ 126 = omega arith in
    grind (arith, nat_tests)

printed-one : (c b : ℕ) → 33 ≤ c → c ≤ 126 → (b == c) ≡ true → is_printed b ≡ true
printed-one c b least most h =
    let same : b ≡ c = grind (arith, nat_tests) in
    let first : 33 ≤ b = omega arith in
    let second : b ≤ 126 = omega arith in
    grind (arith, nat_tests)

either : {P : Type 0} (a b : Bool) → (a ≡ true → P) → (b ≡ true → P) → a || b ≡ true → P
either true b first second h = first refl
either false b first second h = second h

name-printed : (b : ℕ) → is_name_byte b ≡ true → is_printed b ≡ true
name-printed b h =
    either ((((nat_le 48 b && nat_le b 57) || (nat_le 65 b && nat_le b 90)) || (nat_le 97 b && nat_le b 122)) || b == 95) (b == 39)
    (either (((nat_le 48 b && nat_le b 57) || (nat_le 65 b && nat_le b 90)) || (nat_le 97 b && nat_le b 122)) (b == 95)
    (either ((nat_le 48 b && nat_le b 57) || (nat_le 65 b && nat_le b 90)) (nat_le 97 b && nat_le b 122)
    (either (nat_le 48 b && nat_le b 57) (nat_le 65 b && nat_le b 90)
    (printed-between 48 57 b (omega arith) (omega arith)) (printed-between 65 90 b (omega arith) (omega arith)))
    (printed-between 97 122 b (omega arith) (omega arith)))
    (printed-one 95 b (omega arith) (omega arith)))
    (printed-one 39 b (omega arith) (omega arith)) h

one-of : (c b : ℕ) (rest : Bool) → 33 ≤ c → c ≤ 126 → (rest ≡ true → is_printed b ≡ true) → (b == c) || rest ≡ true
    → is_printed b ≡ true
one-of c b rest least most others h = either (b == c) rest (printed-one c b least most) others h

symbol-printed : (b : ℕ) → is_symbol_byte b ≡ true → is_printed b ≡ true
symbol-printed b h =
    one-of 33 b _ (omega arith) (omega arith) (one-of 37 b _ (omega arith) (omega arith)
    (one-of 38 b _ (omega arith) (omega arith) (one-of 36 b _ (omega arith) (omega arith)
    (one-of 35 b _ (omega arith) (omega arith) (one-of 43 b _ (omega arith) (omega arith)
    (one-of 45 b _ (omega arith) (omega arith) (one-of 47 b _ (omega arith) (omega arith)
    (one-of 58 b _ (omega arith) (omega arith) (one-of 60 b _ (omega arith) (omega arith)
    (one-of 61 b _ (omega arith) (omega arith) (one-of 62 b _ (omega arith) (omega arith)
    (one-of 63 b _ (omega arith) (omega arith) (one-of 64 b _ (omega arith) (omega arith)
    (one-of 92 b _ (omega arith) (omega arith) (one-of 126 b _ (omega arith) (omega arith)
    (one-of 96 b _ (omega arith) (omega arith) (one-of 94 b _ (omega arith) (omega arith)
    (one-of 124 b _ (omega arith) (omega arith) (printed-one 42 b (omega arith) (omega arith)))))))))))))))))))) h

word-printed : (text : List ℕ) → list_all is_printed (take (word_len text) text) ≡ true
word-printed text =
    elim (cases_Bool (is_letter (first text))) [
      | inl e ↦ rw e (all_in_run is_name_byte is_printed text name-printed)
      | inr e ↦ rw e (all_in_run is_symbol_byte is_printed text symbol-printed)
    ]

identifier-printed : (text : List ℕ) → list_all is_printed (take (identifier_len text) text) ≡ true
identifier-printed text =
    elim (cases_Bool (is_reserved (take (word_len text) text))) [ inl e ↦ rw e refl | inr e ↦ rw e (word-printed text) ]

-- ---- parts of long identifiers

-- a part with a byte, all of which are printed
abbrev IsPrinted : List ℕ → Type 0
IsPrinted part = (1 ≤ length part) × (list_all is_printed part ≡ true)

-- the length of a structure name is that of its dot less
qualifier-name : (text : List ℕ) → 0 < qualifier_len text
    → (0 < identifier_len text) × (qualifier_len text - 1 ≡ identifier_len text)
unfolding qualifier_len
qualifier-name text h =
    let n = identifier_len text in
    let joined : Bool = get_or text n 0 == 46 && nat_lt 0 (identifier_len (drop (n + 1) text)) in
    let dotted : Bool = nat_lt 0 n && joined in
    elim (cases_Bool (is_letter (first text) && dotted)) [
      | inl e ↦
          let here : nat_lt 0 n ≡ true = (and_parts (nat_lt 0 n) joined (and_parts (is_letter (first text)) dotted e).1).0 in
          let some : 0 < n = ltb-true 0 n here in
          let back : n + 1 - 1 ≡ n = omega arith in
          (some, rw e back)
      | inr e ↦ let none : qualifier_len text ≡ 0 = rw e refl in absurd (omega arith)
    ]

identifier-is : (text : List ℕ) → 0 < identifier_len text → IsPrinted (take (identifier_len text) text)
identifier-is text some =
    let within = identifier_len-within text in
    let len = length-take-le (identifier_len text) text within in
    (omega (arith, len), identifier-printed text)

parts-printed : (passed : ℕ) (text : List ℕ) → 0 < identifier_len (drop passed text)
    → (1 ≤ length (parts_after passed text)) × All IsPrinted (parts_after passed text)
parts-printed zero [] some = absurd (omega (arith, no_identifier))
parts-printed (suc passed) [] some = absurd (omega (arith, no_identifier))
parts-printed (suc passed) (b ∷ bs) some = parts-printed passed bs some
parts-printed zero (b ∷ bs) some =
    let text : List ℕ = b ∷ bs in
    let n = qualifier_len text in
    elim (cases_Bool (nat_lt 0 n)) [
      | inl e ↦
          let more : 0 < n = ltb-true 0 n e in
          let (named, same) = qualifier-name text more in
          let (two, fits) = qualifier_len-within text more in
          let next : suc (n - 1) ≡ n = omega arith in
          let follows : 0 < identifier_len (drop n text) = identifier-after_qualifier text more in
          let behind : 0 < identifier_len (drop (n - 1) bs) =
          subst (λ (k : ℕ). 0 < identifier_len (drop k text)) (sym next) follows in
          let rest = parts-printed (n - 1) bs behind in
          let here : IsPrinted (take (n - 1) text) =
          subst (λ (k : ℕ). IsPrinted (take k text)) (sym same) (identifier-is text named) in
          let step : parts_after 0 text ≡ take (n - 1) text ∷ parts_after (n - 1) bs = rw e refl in
          subst (λ (parts : List (List ℕ)). (1 ≤ length parts) × All IsPrinted parts) (sym step)
          (omega arith, All-cons IsPrinted (take (n - 1) text) (parts_after (n - 1) bs) here rest.1)
      | inr e ↦
          let step : parts_after 0 text ≡ take (identifier_len text) text ∷ [] = rw e refl in
          subst (λ (parts : List (List ℕ)). (1 ≤ length parts) × All IsPrinted parts) (sym step)
          (omega arith, All-cons IsPrinted (take (identifier_len text) text) [] (identifier-is text some) (All-nil IsPrinted))
    ]

-- ---- lexemes

short-is : (part : List ℕ) → is_short part ≡ true → length part ≤ 255
unfolding is_short
short-is part h = grind (arith, nat_tests)

name-text : (part : List ℕ) → IsPrinted part → is_short part ≡ true → IsNameText part
name-text part (some, printed) short = record { some = some; few = short-is part short; printed = printed }

each-short : (parts : List (List ℕ)) → list_all is_short parts ≡ true → All IsPrinted parts → All IsNameText parts
each-short [] short all = All-nil IsNameText
each-short (part ∷ parts) short all =
    let tests = and_parts (is_short part) (list_all is_short parts) short in
    All-cons IsNameText part parts (name-text part (All-head IsPrinted part parts all) tests.0)
    (each-short parts tests.1 (All-tail IsPrinted part parts all))

name_good : (text : List ℕ) → 0 < identifier_len text → Shows front_of (name_front text)
unfolding name_front name_parts
name_good text some =
    let parts = parts_after 0 text in
    let printed = parts-printed 0 text some in
    elim (cases_Bool (list_all is_short parts)) [
      | inl e ↦ rw e (shows_kind (kind.Name parts) (joined_len parts) (printed.0, each-short parts e printed.1))
      | inr e ↦ rw e (λ k n same. absurd (cc))
    ]

pub word_good : (text : List ℕ) → 0 < word_len text → Shows front_of (word_front text)
unfolding word_front
word_good text some =
    elim (cases_Bool (is_reserved (take (word_len text) text))) [
      | inl e ↦ rw e (shows_kind (kind.Reserved (take (word_len text) text)) (word_len text) tt)
      | inr e ↦ let same : identifier_len text ≡ word_len text = rw e refl in rw e (name_good text (omega arith))
    ]

pub type_variable_good : (text : List ℕ) → first text ≡ 39 → Shows front_of (type_variable_front text)
unfolding type_variable_front
type_variable_good text prime =
    let n = prefix_len is_name_byte text in
    let some : 1 ≤ n = name_begins text prime in
    let len : length (take n text) ≡ n = length-take-le n text (prefix_len-le-length is_name_byte text) in
    elim (cases_Bool (is_short (take n text))) [
      | inl e ↦ rw e (shows_kind (kind.TyVar (take n text)) (length (take n text))
          (name-text (take n text) (omega (arith, len), all_in_run is_name_byte is_printed text name-printed) e))
      | inr e ↦ rw e (λ k n same. absurd (cc))
    ]
