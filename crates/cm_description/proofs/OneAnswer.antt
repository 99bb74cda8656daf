-- A text has one answer at most.
use Rattle.std.proofs.Common.{◌≡◌, ℕ, List, [], ◌∷◌, ◌++◌, length, take, drop, Some, None, Result, Ok, Err, inl, inr, refl, ap, ap₂, sym, ◌∙◌, subst, arith, length-append, length-drop}
use Rattle.std.proofs.lemmas.List.{take-append-drop}
use Rattle.cm_base.specs.declared.diag.Diag.{Diag}
use Rattle.cm_base.specs.declared.diag.Place.{Place}
use Rattle.cm_base.specs.declared.fault.Fault.TheVariants as fault
use Rattle.grammars.specs.Grammar.{Grammar, End, Phrase}
use Rattle.grammars.specs.Reading.{Out, end_of, left_of, read}
use Rattle.grammars.specs.Texts.{IsTooDeep}
use Rattle.grammars.proofs.Complete.{complete}
use Rattle.grammars.proofs.Texts.{phrase_whole, refused_once, deep_not_refused}
use Rattle.cm_lexer.specs.Spelling.{slice_of}
use Rattle.cm_lexer.specs.Tokens.{scan_of}
use Rattle.cm_lexer.specs.declared.token.Token.{Token}
use Rattle.cm_conditions.specs.Grammar.{condition}
use Rattle.cm_conditions.specs.Lexemes.{lexemes_of}
use Rattle.cm_conditions.specs.Answers.{ReadsCondition}
use Rattle.cm_conditions.specs.declared.cond.Cond.{Cond}
use Rattle.cm_description.specs.Words.{place}
use Rattle.cm_description.specs.Grammar.{description}
use Rattle.cm_description.specs.Answers.{IsDescription, IsNoDescription, IsBadDirective, EndsBadly, IsRefusal, ReadsDescription, stop_place, refusal_at, checked}
use Rattle.cm_description.specs.Laws.{HasOneAnswer}
use Rattle.cm_description.specs.declared.description.Description.{Description}
use Rattle.cm_description.proofs.TextLaws.{one_description}

-- ---- grammars

deep_reads : {L A : Type 0} (g : Grammar L A) (xs : List L) (n : ℕ) → IsTooDeep g xs n
    → read g xs ≡ Out.out End.deep (drop n xs)
deep_reads g xs n d =
    ap (read g) (sym (take-append-drop n xs)) ∙ complete g End.deep (take n xs) (drop n xs) d.ends

deep_no_phrase : {L A : Type 0} (g : Grammar L A) (xs : List L) (n : ℕ) (a : A) → IsTooDeep g xs n
    → Phrase g xs None a → ⊥
deep_no_phrase {L} {A} g xs n a d p =
    let never : ◌≡◌ {A = End A} End.deep (End.whole a) =
    ap end_of (sym (deep_reads g xs n d) ∙ phrase_whole g xs a p) in cc

deep_once : {L A : Type 0} (g : Grammar L A) (xs : List L) (n m : ℕ) → IsTooDeep g xs n → IsTooDeep g xs m → n ≡ m
deep_once g xs n m d e =
    let left : drop n xs ≡ drop m xs = ap left_of (sym (deep_reads g xs n d) ∙ deep_reads g xs m e) in
    let same : length (drop n xs) ≡ length (drop m xs) = ap length left in
    let one = d.inside in let other = e.inside in
    omega (arith, one, other, simp length-drop at same)

-- ---- conditions

condition_once : (at : Place) (text : List ℕ) (d e : Diag) → ReadsCondition at text (Err (fault.Diag d))
    → ReadsCondition at text (Err (fault.Diag e)) → d ≡ e
condition_once at text d e (inl (n, is, r)) (inl (m, other, q)) = is ∙ sym other
condition_once at text d e (inl (n, is, r)) (inr (m, other, q)) =
    absurd (deep_not_refused (condition 128) (lexemes_of text) m n q r)
condition_once at text d e (inr (n, is, r)) (inl (m, other, q)) =
    absurd (deep_not_refused (condition 128) (lexemes_of text) n m r q)
condition_once at text d e (inr (n, is, r)) (inr (m, other, q)) = is ∙ sym other

condition_or_not : (at : Place) (text : List ℕ) (d : Diag) (cond : Cond) → ReadsCondition at text (Err (fault.Diag d))
    → ReadsCondition at text (Ok cond) → ⊥
condition_or_not at text d cond (inl (n, is, r)) p = r.no_phrase cond p
condition_or_not at text d cond (inr (n, is, r)) p = deep_no_phrase (condition 128) (lexemes_of text) n cond r p

bad_once : (file text : List ℕ) (us vs : List Token) (x rest : Token) (d e : Diag)
    → IsBadDirective file text us x rest d
    → IsBadDirective file text vs x rest e → d ≡ e
bad_once file text us vs x rest d e (inl p) (inl q) = condition_once (place file x) (slice_of text rest) d e p q
bad_once file text us vs x rest d e (inl p) (inr (cond, q, asks, inside, is)) =
    absurd (condition_or_not (place file x) (slice_of text rest) d cond p q)
bad_once file text us vs x rest d e (inr (cond, p, asks, inside, is)) (inl q) =
    absurd (condition_or_not (place file x) (slice_of text rest) e cond q p)
bad_once file text us vs x rest d e (inr (c, p, asks, inside, is)) (inr (b, q, again, also, other)) = is ∙ sym other

-- ---- the last two tokens

no_room : (v x y a b : Token) (vs : List Token) → x ∷ y ∷ [] ≡ v ∷ (vs ++ a ∷ b ∷ []) → ⊥
no_room v x y a b vs h =
    let count : 2 ≡ length (v ∷ (vs ++ a ∷ b ∷ [])) = ap length h in
    omega (arith, simp length-append at count)

pub ends_once : (us vs : List Token) (x y a b : Token) → us ++ x ∷ y ∷ [] ≡ vs ++ a ∷ b ∷ []
    → (us ≡ vs) × (x ≡ a) × (y ≡ b)
ends_once [] [] x y a b h = (refl, cc, cc)
ends_once [] (v ∷ vs) x y a b h = absurd (no_room v x y a b vs h)
ends_once (u ∷ us) [] x y a b h = absurd (no_room u a b x y us (sym h))
ends_once (u ∷ us) (v ∷ vs) x y a b h =
    let first : u ≡ v = cc in
    let rest = ends_once us vs x y a b (cc) in
    (ap₂ (λ (t : Token) (l : List Token). t ∷ l) first rest.0, rest.1, rest.2)

ends_bad_once : (file text : List ℕ) (taken : List Token) (d e : Diag) → EndsBadly file text taken d
    → EndsBadly file text taken e → d ≡ e
ends_bad_once file text taken d e (us, x, r, one, p) (vs, y, s, other, q) =
    let same = ends_once us vs x r y s (sym one ∙ other) in
    bad_once file text us vs y s d e
    (subst (λ (t : Token). IsBadDirective file text us y t d) same.2
    (subst (λ (t : Token). IsBadDirective file text us t r d) same.1 p)) q

-- ---- texts

module _ (file text : List ℕ) where
  abbrev xs : List Token
  xs = (scan_of text).tokens

  abbrev g : Grammar Token Description
  g = description file text

  -- a text that is none has one diagnostic
  none_once : (d e : Diag) → IsNoDescription file text d → IsNoDescription file text e → d ≡ e
  none_once d e (inl (n, r, is)) (inl (m, q, other)) =
      is ∙ ap (λ (k : ℕ). refusal_at 2 (stop_place file (scan_of text) (drop k xs))) (refused_once g xs n m r q)
      ∙ sym other
  none_once d e (inl (n, r, is)) (inr (inl (a, p, phrase, wrong, other))) = absurd (r.no_phrase a phrase)
  none_once d e (inl (n, r, is)) (inr (inr (m, q, bad))) = absurd (deep_not_refused g xs m n q r)
  none_once d e (inr (inl (a, p, phrase, wrong, is))) (inl (m, q, other)) = absurd (q.no_phrase a phrase)
  none_once d e (inr (inl (a, p, phrase, wrong, is))) (inr (inl (b, q, again, more, other))) = is ∙ sym other
  none_once d e (inr (inl (a, p, phrase, wrong, is))) (inr (inr (m, q, bad))) =
      absurd (deep_no_phrase g xs m a q phrase)
  none_once d e (inr (inr (n, r, bad))) (inl (m, q, other)) = absurd (deep_not_refused g xs n m r q)
  none_once d e (inr (inr (n, r, bad))) (inr (inl (b, q, phrase, more, other))) =
      absurd (deep_no_phrase g xs n b r phrase)
  none_once d e (inr (inr (n, r, bad))) (inr (inr (m, q, worse))) =
      ends_bad_once file text (take m xs) d e
      (subst (λ (k : ℕ). EndsBadly file text (take k xs) d) (deep_once g xs n m r q) bad) worse

  -- a description is not none
  none_or_not : (d : Diag) (a : Description) → IsNoDescription file text d → IsDescription file text a → ⊥
  none_or_not d a (inl (n, r, is)) known = r.no_phrase a known.phrase
  none_or_not d a (inr (inl (b, p, phrase, wrong, is))) known =
      let never : None ≡ Some p = sym known.whole ∙ wrong in cc
  none_or_not d a (inr (inr (n, r, bad))) known = deep_no_phrase g xs n a r known.phrase

  -- what is checked has one answer
  checked_once : (a b : Description) (r s : Result Description Diag) → IsDescription file text a
      → IsDescription file text b → checked file xs a ≡ r → checked file xs b ≡ s → r ≡ s
  checked_once a b r s one other p q =
      sym p ∙ ap (λ (x : Description). checked file xs x) (one_description file text a b one other) ∙ q

  refusal_once : (d e : Diag) → IsRefusal file text d → IsRefusal file text e → d ≡ e
  refusal_once d e (inl (large, is)) (inl (again, other)) = is ∙ sym other
  refusal_once d e (inl (large, is)) (inr (inl (small, p))) = absurd (omega (arith, large, small))
  refusal_once d e (inl (large, is)) (inr (inr (small, b, known, more))) = absurd (omega (arith, large, small))
  refusal_once d e (inr (inl (small, p))) (inl (large, is)) = absurd (omega (arith, large, small))
  refusal_once d e (inr (inr (small, b, known, more))) (inl (large, is)) = absurd (omega (arith, large, small))
  refusal_once d e (inr (inl (small, p))) (inr (inl (again, q))) = none_once d e p q
  refusal_once d e (inr (inl (small, p))) (inr (inr (again, b, known, is))) = absurd (none_or_not d b p known)
  refusal_once d e (inr (inr (small, a, known, is))) (inr (inl (again, q))) = absurd (none_or_not e a q known)
  refusal_once d e (inr (inr (small, a, known, is))) (inr (inr (again, b, other, more))) =
      let same = checked_once a b (Err d) (Err e) known other is more in cc

  refusal_or_not : (d : Diag) (a : Description) → IsRefusal file text d → ReadsDescription file text (Ok a) → ⊥
  refusal_or_not d a (inl (large, is)) (small, known, kept) = omega (arith, large, small)
  refusal_or_not d a (inr (inl (small, p))) (again, known, kept) = none_or_not d a p known
  refusal_or_not d a (inr (inr (small, b, known, is))) (again, other, kept) =
      let same = checked_once b a (Err d) (Ok a) known other is kept in cc

pub one_answer : HasOneAnswer
one_answer file text d p = (λ e q. refusal_once file text d e p q, λ a q. refusal_or_not file text d a p q)
