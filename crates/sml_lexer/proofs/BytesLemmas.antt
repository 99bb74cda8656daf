-- Runs of a class of bytes at the front of a text.
use Rattle.std.proofs.Common.{◌≡◌, ℕ, ◌+◌, ◌<◌, ◌≤◌, Bool, true, false, List, [], ◌∷◌, length, get_or, take, refl, ap, sym, ◌∙◌, suc, inl, inr, arith}
use Rattle.std.proofs.lemmas.Bool.{cases_lt, cases_Bool, false≢true}
use Rattle.std.proofs.lemmas.List.{get_or_past}
use Rattle.std.specs.List.{prefix_len, list_all}
use Rattle.sml_lexer.specs.Classes.{is_blank, is_name_byte}

-- a byte of a class that 0 isn't in was read inside the text
pub within_class : (p : ℕ → Bool) (xs : List ℕ) (i : ℕ) → p 0 ≡ false → p (get_or xs i 0) ≡ true → i < length xs
within_class p xs i none here =
    elim (cases_lt i (length xs)) [
      | inl within ↦ within
      | inr past ↦ let nothing : p (get_or xs i 0) ≡ false = ap p (get_or_past xs i 0 past) ∙ none in absurd (false≢true (sym nothing ∙ here))
    ]

-- where the first byte is of the class, the run has at least one
pub run_begins : (p : ℕ → Bool) (xs : List ℕ) → p 0 ≡ false → p (get_or xs 0 0) ≡ true → 1 ≤ prefix_len p xs
run_begins p [] none here = absurd (false≢true (sym none ∙ here))
run_begins p (x ∷ xs) none here = rw here (omega arith)

-- the bytes of a run are of each class that holds the run's
pub all_in_run : (p q : ℕ → Bool) (xs : List ℕ) → ((c : ℕ) → p c ≡ true → q c ≡ true) → list_all q (take (prefix_len p xs) xs) ≡ true
all_in_run p q [] within = refl
all_in_run p q (x ∷ xs) within =
    elim (cases_Bool (p x)) [
      | inl here ↦ let more : 1 + prefix_len p xs ≡ suc (prefix_len p xs) = omega arith in
          let passes : q x ≡ true = within x here in
          rw (here, more, passes) (all_in_run p q xs within)
      | inr other ↦ rw other refl
    ]

pub blank_begins : (text : List ℕ) → is_blank (get_or text 0 0) ≡ true → 1 ≤ prefix_len is_blank text
blank_begins text h = run_begins is_blank text refl h

pub name_begins : (text : List ℕ) → get_or text 0 0 ≡ 39 → 1 ≤ prefix_len is_name_byte text
name_begins text h = run_begins is_name_byte text refl (rw h refl)
