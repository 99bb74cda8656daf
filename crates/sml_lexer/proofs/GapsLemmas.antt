-- Comments, a step at a time.
use Rattle.std.proofs.Common.{◌≡◌, ℕ, zero, suc, ◌+◌, ◌-◌, ◌<◌, ◌≤◌, true, false, ◌==◌, List, [], ◌∷◌, length, length-drop, get_or, drop, Option, Some, None, refl, sym, ap, ◌∙◌, arith}
use Rattle.std.proofs.lemmas.Bool.{and_parts}
use Rattle.std.proofs.lemmas.List.{drop_more}
use Rattle.sml_lexer.specs.Gaps.{opens, closes, further, comment_rest, begins_comment}
use Rattle.sml_lexer.proofs.BytesLemmas.{within_class}

-- a comment has the two bytes that open it
pub comment_has_opening : (text : List ℕ) → begins_comment text ≡ true → 2 ≤ length text
comment_has_opening text h =
    let star : (get_or text 1 0 == 42) ≡ true = (and_parts (get_or text 0 0 == 40) (get_or text 1 0 == 42) h).1 in
    omega (arith, within_class (λ c. c == 42) text 1 refl star)

pub further-further : (m n : ℕ) (len : Option ℕ) → further m (further n len) ≡ further (m + n) len
further-further m n None = refl
further-further m n (Some k) = ap Some (omega arith)

-- two bytes of a text, and the rest
two_more : (text : List ℕ) (at : ℕ) → at + 1 < length text
    → drop at text ≡ get_or text at 0 ∷ (get_or text (at + 1) 0 ∷ drop (at + 2) text)
two_more text at h =
    let within : at < length text = omega arith in
    let two : at + 1 + 1 ≡ at + 2 = omega arith in
    drop_more text at 0 within
    ∙ ap (λ rest. get_or text at 0 ∷ rest) (drop_more text (at + 1) 0 h ∙ ap (λ n. get_or text (at + 1) 0 ∷ drop n text) two)

one_more : (text : List ℕ) (at : ℕ) → at + 1 < length text → drop (at + 1) text ≡ get_or text (at + 1) 0 ∷ drop (at + 2) text
one_more text at h =
    let two : at + 1 + 1 ≡ at + 2 = omega arith in
    drop_more text (at + 1) 0 h ∙ ap (λ n. get_or text (at + 1) 0 ∷ drop n text) two

-- a step inside a comment at a pair that opens another
pub rest_opens : (depth at : ℕ) (text : List ℕ) → at + 1 < length text → opens (get_or text at 0) (get_or text (at + 1) 0) ≡ true
    → further at (comment_rest depth (drop at text)) ≡ further (at + 2) (comment_rest (depth + 1) (drop (at + 2) text))
rest_opens depth at text h e =
    let deeper : depth + 1 ≡ suc depth = omega arith in
    ap (λ rest. further at (comment_rest depth rest)) (two_more text at h)
    ∙ (rw (e, deeper) (further-further at 2 (comment_rest (suc depth) (drop (at + 2) text))))

-- at a pair that closes one inside another
pub rest_closes : (depth at : ℕ) (text : List ℕ) → at + 1 < length text → opens (get_or text at 0) (get_or text (at + 1) 0) ≡ false
    → closes (get_or text at 0) (get_or text (at + 1) 0) ≡ true → 0 < depth
    → further at (comment_rest depth (drop at text)) ≡ further (at + 2) (comment_rest (depth - 1) (drop (at + 2) text))
rest_closes zero at text h o e d = absurd (omega arith)
rest_closes (suc depth) at text h o e d =
    let outer : suc depth - 1 ≡ depth = omega arith in
    ap (λ rest. further at (comment_rest (suc depth) rest)) (two_more text at h)
    ∙ (rw (o, e, outer) (further-further at 2 (comment_rest depth (drop (at + 2) text))))

-- at the pair that closes the comment itself
pub rest_ends : (at : ℕ) (text : List ℕ) → at + 1 < length text → opens (get_or text at 0) (get_or text (at + 1) 0) ≡ false
    → closes (get_or text at 0) (get_or text (at + 1) 0) ≡ true → further at (comment_rest 0 (drop at text)) ≡ Some (at + 2)
rest_ends at text h o e = ap (λ rest. further at (comment_rest 0 rest)) (two_more text at h) ∙ rw (o, e) refl

-- at another byte
pub rest_goes_on : (depth at : ℕ) (text : List ℕ) → at + 1 < length text → opens (get_or text at 0) (get_or text (at + 1) 0) ≡ false
    → closes (get_or text at 0) (get_or text (at + 1) 0) ≡ false
    → further at (comment_rest depth (drop at text)) ≡ further (at + 1) (comment_rest depth (drop (at + 1) text))
rest_goes_on depth at text h o e =
    ap (λ rest. further at (comment_rest depth rest)) (two_more text at h)
    ∙ (rw (o, e) (further-further at 1 (comment_rest depth (get_or text (at + 1) 0 ∷ drop (at + 2) text))))
    ∙ ap (λ rest. further (at + 1) (comment_rest depth rest)) (sym (one_more text at h))

short_is_open : (depth : ℕ) (rest : List ℕ) → length rest ≤ 1 → comment_rest depth rest ≡ None
short_is_open depth [] h = refl
short_is_open depth (a ∷ []) h = refl
short_is_open depth (a ∷ (b ∷ bs)) h = absurd (omega arith)

-- fewer than two bytes end no comment
pub rest_open : (depth at : ℕ) (text : List ℕ) → length text ≤ at + 1 → further at (comment_rest depth (drop at text)) ≡ None
rest_open depth at text h = ap (further at) (short_is_open depth (drop at text) (omega (arith, length-drop at text)))
