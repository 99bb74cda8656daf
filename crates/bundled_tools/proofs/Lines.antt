-- A literate source, line by line.
use Rattle.std.proofs.Common.{◌≡◌, ◌≢◌, ◌∙◌, ap, subst, sym, refl, ℕ, ◌+◌, ◌-◌, ◌<◌, ◌≤◌, ◌==◌, Bool, true, false, cond, List, [], ◌∷◌, ◌++◌, length, take, drop, get_or, map, take-append-drop, take_all, append_assoc}
use Rattle.std.specs.Prelude.{All}
use Rattle.std.specs.List.{slice_split, onto_first, join_with_byte}
use Rattle.std.proofs.lemmas.List.{drop_more, take_rest}
use Rattle.std.proofs.lemmas.List.Elements.{All-more}
use Rattle.std.proofs.lemmas.Bool.{ne_eqb}
use Rattle.std.proofs.lemmas.List.Splits.{slice_split_none, slice_split_at}
use Rattle.cm_base.specs.Derived.{code_line, code_lines}
use Rattle.bundled_tools.specs.Lines.{code_text, BeginsWithLine, IsOneLine}

-- the byte between two lines
abbrev is_feed : ℕ → Bool
is_feed byte = byte == 10

-- no byte of a line is a line feed
pub record NoFeed (line : List ℕ) : Type 0 where
  pub each : All (λ byte. (byte == 10) ≡ false) line

-- a split has a first part
split_first : (text : List ℕ) → (first : List ℕ) × (others : List (List ℕ)) × (slice_split is_feed text ≡ first ∷ others)
split_first [] = ([], [], refl)
split_first (byte ∷ text) = by_test (split_first text) (is_feed byte)
  where
    by_test : ((first : List ℕ) × (others : List (List ℕ)) × (slice_split is_feed text ≡ first ∷ others)) → (b : Bool)
        → (first : List ℕ) × (others : List (List ℕ))
        × (cond b ([] ∷ slice_split is_feed text) (onto_first byte (slice_split is_feed text)) ≡ first ∷ others)
    by_test rest true = ([], slice_split is_feed text, refl)
    by_test rest false = (byte ∷ rest.0, rest.1, ap (onto_first byte) rest.2)

-- the code of one more line
pub code_more : (text line rest : List ℕ) → BeginsWithLine text line rest
    → code_text text ≡ code_line line ++ 10 ∷ code_text rest
unfolding code_text
code_more text line rest is =
    let found = split_first rest in
    let parts : slice_split is_feed text ≡ line ∷ found.0 ∷ found.1 =
    is.split ∙ ap (λ (ls : List (List ℕ)). line ∷ ls) found.2 in
    ap (λ (ls : List (List ℕ)). join_with_byte 10 (map code_line ls)) parts
    ∙ ap (λ (ls : List (List ℕ)). code_line line ++ 10 ∷ join_with_byte 10 (map code_line ls)) (sym found.2)

-- .. of the last line
pub code_last : (text : List ℕ) → IsOneLine text → code_text text ≡ code_line text
unfolding code_text
code_last text is = ap (λ (ls : List (List ℕ)). join_with_byte 10 (map code_line ls)) is.split

-- what the loop over a text's bytes has found at a line feed
pub ends_at : (text : List ℕ) (at : ℕ) → at < length text → get_or text at 0 ≡ 10 → NoFeed (take at text)
    → BeginsWithLine text (take at text) (take (length text - (at + 1)) (drop (at + 1) text))
ends_at text at lt read none =
    let parts : text ≡ take at text ++ 10 ∷ drop (at + 1) text =
    sym (take-append-drop at text)
    ∙ ap (λ (rest : List ℕ). take at text ++ rest) (drop_more text at 0 lt
    ∙ ap (λ z. z ∷ drop (at + 1) text) read) in
    rw take_rest (record {
      split = ap (slice_split is_feed) parts
          ∙ slice_split_at is_feed (take at text) 10 (drop (at + 1) text) none.each refl;
    })

-- .. at another byte
pub no_feed_more : (text : List ℕ) (at : ℕ) → at < length text → get_or text at 0 ≢ 10 → NoFeed (take at text)
    → NoFeed (take (at + 1) text)
no_feed_more text at lt other none =
    record {
      each = All-more (λ byte. (byte == 10)
          ≡ false) text at 0 lt none.each (ne_eqb (get_or text at 0) 10 other);
    }

-- .. at the end
pub no_feed_all : (text : List ℕ) (at : ℕ) → length text ≤ at → NoFeed (take at text) → IsOneLine text
no_feed_all text at le none = record {
  split = slice_split_none is_feed text (subst NoFeed (take_all at text le) none).each;
}

-- one more line is written
pub code_step : (out marked next text line rest whole : List ℕ) → marked ≡ out ++ code_line line
    → next ≡ marked ++ 10 ∷ []
    → BeginsWithLine text line rest → out ++ code_text text ≡ whole → next ++ code_text rest ≡ whole
code_step out marked next text line rest whole a b is was =
    let step = code_more text line rest is in
    rw (b, a) (simp append_assoc (ap (λ (t : List ℕ). out ++ t) (sym step) ∙ was))
