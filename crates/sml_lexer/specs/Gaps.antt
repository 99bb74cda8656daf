-- What stands between lexemes: separators, and comments, which nest (The Definition of Standard ML, section 2.3).
use Rattle.std.specs.Prelude.{ℕ, ◌+◌, Bool, ◌&&◌, ◌==◌, zero, suc, List, [], ◌∷◌, drop, slice_index, Option, Some, None, option_map, if◌then◌else◌}
use Rattle.sml_lexer.specs.declared.front.Front.{Front}
use Rattle.sml_lexer.specs.declared.front.Front.TheVariants.{Gap, Refused}
use Rattle.sml_lexer.specs.Classes.{first}

abbrev pub opens : ℕ → ℕ → Bool
opens a b = a == 40 && b == 42

abbrev pub closes : ℕ → ℕ → Bool
closes a b = a == 42 && b == 41

abbrev pub further : ℕ → Option ℕ → Option ℕ
further n len = option_map (λ k. n + k) len

-- after a `*)`, inside so many outer comments
abbrev pub after_close : ℕ → (ℕ → Option ℕ) → Option ℕ
after_close zero rest = Some 2
after_close (suc depth) rest = further 2 (rest depth)

-- the length of the rest of a comment that so many others are open around, where each of them ends
abbrev pub comment_rest : ℕ → List ℕ → Option ℕ
comment_rest depth [] = None
comment_rest depth (a ∷ []) = None
comment_rest depth (a ∷ (b ∷ bs)) =
    if opens a b then further 2 (comment_rest (suc depth) bs)
    else if closes a b then after_close depth (λ outer. comment_rest outer bs)
    else further 1 (comment_rest depth (b ∷ bs))

abbrev pub begins_comment : List ℕ → Bool
begins_comment text = opens (first text) (slice_index text 1)

abbrev pub comment_gap : Option ℕ → Front
comment_gap None = Refused 20
comment_gap (Some len) = Gap (2 + len)

-- the comment at the front of a text that begins with `(*`
unfoldable pub comment_front : List ℕ → Front
comment_front text = comment_gap (comment_rest 0 (drop 2 text))
