-- What reading a whole text tells of it, for every grammar.
use Rattle.std.proofs.Common.{◌≡◌, ℕ, ◌-◌, List, [], ◌∷◌, ◌++◌, length, take, drop, Option, Some, None, inl, inr}
use Rattle.std.proofs.Common.{refl, sym, ap, ◌∙◌, subst, arith, length-append, append-nil}
use Rattle.std.proofs.Common.{◌≤◌, length-drop}
use Rattle.std.proofs.lemmas.List.{take-append-drop}
use Rattle.std.proofs.Math.Seq.{drop-append_seam, take-append_seam}
use Rattle.grammars.specs.Grammar.{Grammar, End, head_or, Ends, Phrase}
use Rattle.grammars.specs.Front.{FirstNoFront}
use Rattle.grammars.specs.Reading.{Out, end_of, left_of, read}
use Rattle.grammars.specs.Texts.{IsRefused, IsTooDeep}
use Rattle.grammars.specs.Laws.{IsDecided}
use Rattle.grammars.proofs.Complete.{complete}
use Rattle.grammars.proofs.Sound.{is_out, sound}
use Rattle.grammars.proofs.Fronts.{place, one_place}

-- What was taken is as long as what is gone.
taken_length : {L : Type 0} (xs ys rest : List L) → xs ≡ ys ++ rest → length xs - length rest ≡ length ys
taken_length xs ys rest split = rw (split, length-append) (omega arith)

-- What is left stands behind what was taken.
drop_taken : {L : Type 0} (xs ys rest : List L) → xs ≡ ys ++ rest → drop (length xs - length rest) xs ≡ rest
drop_taken xs ys rest split =
    ap (λ n. drop n xs) (taken_length xs ys rest split) ∙ ap (λ l. drop (length ys) l) split
    ∙ drop-append_seam ys rest

-- What was taken stands before what is left.
take_taken : {L : Type 0} (xs ys rest : List L) → xs ≡ ys ++ rest → take (length xs - length rest) xs ≡ ys
take_taken xs ys rest split =
    ap (λ n. take n xs) (taken_length xs ys rest split) ∙ ap (λ l. take (length ys) l) split
    ∙ take-append_seam ys rest

module _ {L A : Type 0} (g : Grammar L A) (xs : List L) where
  -- A text that is read whole is a phrase.
  pub phrase_read : (a : A) → read g xs ≡ Out.out (End.whole a) [] → Phrase g xs None a
  phrase_read a h =
      let one = sound g xs (End.whole a) [] h in
      let same : one.0 ≡ xs = sym (append-nil one.0) ∙ sym one.1 in
      subst (λ (l : List L). Phrase g l None a) same one.2

  -- A phrase is read whole.
  pub phrase_whole : (a : A) → Phrase g xs None a → read g xs ≡ Out.out (End.whole a) []
  phrase_whole a p = ap (read g) (sym (append-nil xs)) ∙ complete g (End.whole a) xs [] p

  -- A text that is too deep is read as such.
  deep_read : (n : ℕ) → Ends g End.deep (take n xs) (head_or (drop n xs) None)
      → read g xs ≡ Out.out End.deep (drop n xs)
  deep_read n d = ap (read g) (sym (take-append-drop n xs)) ∙ complete g End.deep (take n xs) (drop n xs) d

  -- A text that is read neither whole nor too deep is refused where reading ends.
  refused_at : (e : End A) (rest : List L) → read g xs ≡ Out.out e rest
      → ((a : A) → e ≡ End.whole a → rest ≡ [] → ⊥) → (e ≡ End.deep → ⊥) → IsRefused g xs (length xs - length rest)
  refused_at e rest h not_whole not_deep =
      let one = sound g xs e rest h in
      record {
        inside = omega arith;
        place = subst (λ (l : List L). FirstNoFront g xs l) (sym (drop_taken xs one.0 rest one.1))
            (place g e xs rest h);
        no_phrase = λ a p.
            let same = sym h ∙ phrase_whole a p in not_whole a (ap end_of same) (ap left_of same);
        not_deep = λ d.
            let same = sym h ∙ deep_read (length xs - length rest) d in not_deep (ap end_of same);
      }

  -- A text that is read as refused is refused there.
  pub refused_read : (rest : List L) → read g xs ≡ Out.out End.refused rest
      → IsRefused g xs (length xs - length rest)
  refused_read rest h =
      refused_at End.refused rest h (λ a is _. let never : End.refused ≡ End.whole a = is in cc)
      (λ is. let never : ◌≡◌ {A = End A} End.refused End.deep = is in cc)

  -- A text with more behind a whole phrase is refused there.
  pub more_read : (a : A) (y : L) (rest : List L) → read g xs ≡ Out.out (End.whole a) (y ∷ rest)
      → IsRefused g xs (length xs - length (y ∷ rest))
  more_read a y rest h =
      refused_at (End.whole a) (y ∷ rest) h (λ b _ is. let never : y ∷ rest ≡ [] = is in cc)
      (λ is. let never : End.whole a ≡ End.deep = is in cc)

  -- A text that is read as too deep is so there.
  pub too_deep_read : (rest : List L) → read g xs ≡ Out.out End.deep rest → IsTooDeep g xs (length xs - length rest)
  too_deep_read rest h =
      let one = sound g xs End.deep rest h in
      let before : Ends g End.deep (take (length xs - length rest) xs) (head_or rest None) =
      subst (λ (l : List L). Ends g End.deep l (head_or rest None)) (sym (take_taken xs one.0 rest one.1)) one.2 in
      record {
        inside = omega arith;
        ends = subst (λ (l : List L). Ends g End.deep (take (length xs - length rest) xs) (head_or l None))
            (sym (drop_taken xs one.0 rest one.1)) before;
      }

  -- Each text is a phrase, or is refused or too deep at some place.
  pub decided : IsDecided g xs
  decided = by_end (end_of (read g xs)) (left_of (read g xs)) (is_out (read g xs))
    where
      by_end : (e : End A) (rest : List L) → read g xs ≡ Out.out e rest → IsDecided g xs
      by_end (End.whole a) [] h = inl (a, phrase_read a h)
      by_end (End.whole a) (y ∷ rest) h = inr (inl (length xs - length (y ∷ rest), more_read a y rest h))
      by_end End.refused rest h = inr (inl (length xs - length rest, refused_read rest h))
      by_end End.deep rest h = inr (inr (length xs - length rest, too_deep_read rest h))

-- A lexeme that follows, or none, as a text.
followed : {L : Type 0} (next : Option L) → (rest : List L) × (next ≡ head_or rest None)
followed None = ([], refl)
followed (Some y) = (y ∷ [], refl)

-- The same lexemes, before the same lexeme, end in one way only.
pub unique : {L A : Type 0} (g : Grammar L A) (e f : End A) (xs : List L) (next : Option L) → Ends g e xs next
    → Ends g f xs next → e ≡ f
unique {L} {A} g e f xs next p q =
    let after = followed next in
    let one = complete g e xs after.0 (subst (Ends g e xs) after.1 p) in
    let two = complete g f xs after.0 (subst (Ends g f xs) after.1 q) in
    ap end_of (sym one ∙ two)

-- Places in a text with equally many lexemes behind them are one.
by_lengths : {L : Type 0} (xs : List L) (n m : ℕ) → n ≤ length xs → m ≤ length xs
    → length (drop n xs) ≡ length (drop m xs) → n ≡ m
by_lengths xs n m p q same = omega (arith, simp length-drop at same)

-- A text that is too deep isn't refused.
pub deep_not_refused : {L A : Type 0} (g : Grammar L A) (xs : List L) (n m : ℕ) → IsTooDeep g xs n
    → IsRefused g xs m → ⊥
deep_not_refused g xs n m d r =
    let left = one_place g xs (drop n xs) (drop m xs)
    (place g End.deep xs (drop n xs) (deep_read g xs n d.ends)) r.place in
    let same : n ≡ m = by_lengths xs n m d.inside r.inside left in
    r.not_deep (subst (λ (k : ℕ). Ends g End.deep (take k xs) (head_or (drop k xs) None)) same d.ends)

-- A text is refused at one place.
pub refused_once : {L A : Type 0} (g : Grammar L A) (xs : List L) (n m : ℕ) → IsRefused g xs n
    → IsRefused g xs m → n ≡ m
refused_once g xs n m r q =
    by_lengths xs n m r.inside q.inside (one_place g xs (drop n xs) (drop m xs) r.place q.place)
