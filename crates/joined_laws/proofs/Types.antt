-- The types behind `where`, of which an `and` may be taken that joins something to the phrase around.
use Rattle.std.proofs.Common.{◌≡◌, ◌⊎◌, ℕ, zero, suc, List, [], ◌∷◌, ◌++◌, Option, Some, None, Bool, true, false, inl, inr, refl, sym, ap, subst, ◌∙◌}
use Rattle.std.proofs.lemmas.List.{append_assoc, append-nil}
use Rattle.grammars.specs.Grammar.{End, Ends, Phrase, Rounds, head_or, begins}
use Rattle.sml_lexer.specs.declared.lexeme.Lexeme.{Lexeme}
use Rattle.sml_trees.specs.declared.full_ty.FullTy.{FullTy}
use Rattle.sml_trees.specs.declared.full_sig.FullWhere.{FullWhere}
use Rattle.phrase_reading.specs.Names.{if_marked}
use Rattle.phrase_reading.specs.Sized.{one, more}
use Rattle.phrase_reading.specs.Words.{g, is}
use Rattle.phrase_reading.specs.declared.tall.Tall.{Tall}
use Rattle.sml_lexer.specs.declared.words.Word.TheVariants as w
use Rattle.signature_parser.specs.Joined.{apart}
use Rattle.signature_parser.specs.Signatures.{where_bind, where_type, one_type, and_type, where_types_from, where_types, goes_on_with}
use Rattle.signature_parser.specs.declared.joined.Joined.{Joined}
use Rattle.head_laws.proofs.Algebra.{same_many, never_refused, head_both}
use Rattle.joined_laws.specs.Forms.{Form, AreFurther, AreJoined}
use Rattle.joined_laws.proofs.Parts.{mores, Further, Ended, ended_behind}

module _ (tys : g (Tall FullTy)) where
  -- one of the types
  abbrev pub One : Form (Tall FullWhere)
  One xs next made = Phrase (where_type tys) xs next made

  abbrev test : Joined (List FullWhere) → Lexeme → Bool
  test found x = goes_on_with w.And found.joined x

  abbrev step : Joined (List FullWhere) → Lexeme → g (Joined (List FullWhere))
  step found x = and_type tys found.made

  -- behind an `and` that was taken no other one is
  no_more : (n : ℕ) (found all : Joined (List FullWhere)) (xs : List Lexeme) (next : Option Lexeme)
      → found.joined ≡ true → Rounds test (λ a x. Ends (step a x)) n found (End.whole all) xs next
      → (xs ≡ []) × (all ≡ found)
  no_more zero found all xs next joined h = let ends : End.whole all ≡ End.whole found = h.2 in (h.1, cc)
  no_more (suc n) found all [] next joined h = absurd h
  no_more (suc n) found all (x ∷ xs) next joined h =
      let goes : goes_on_with w.And found.joined x ≡ true = h.0 in
      let never : goes_on_with w.And found.joined x ≡ false = ap (λ (b : Bool). goes_on_with w.And b x) joined in
      absurd (cc)

  -- one round
  next_in : (found : Tall (List FullWhere)) (xs : List Lexeme) (next : Option Lexeme) (mid : Joined (List FullWhere))
      → Phrase (and_type tys found) xs next mid
      → ((made : Tall FullWhere) × One xs next made × (mid ≡ apart (more found made)))
      ⊎ ((xs ≡ []) × (begins (is w.TypeWord) next ≡ false) × (mid ≡ record { made = found; joined = true }))
  unfolding and_type one_type where_type if_marked
  next_in found [] next mid h = let ends : End.whole mid ≡ End.whole (record { made = found; joined = true }) = h.1.1
      in inr (refl, h.0, cc)
  next_in found (x ∷ xs) next mid (inl (marked, inl (made, ys, zs, split, q, r))) =
      let ends : End.whole mid ≡ End.whole (apart (more found made)) = r.1 in
      let all : ys ≡ xs = sym (split ∙ ap (λ (l : List Lexeme). ys ++ l) r.0 ∙ append-nil ys) in
      let behind : head_or zs next ≡ next = ap (λ (l : List Lexeme). head_or l next) r.0 in
      inl (
        made,
        inl (
          marked,
          subst (λ (l : List Lexeme). Phrase (where_bind tys x) l next made) all
              (subst (λ (o : Option Lexeme). Phrase (where_bind tys x) ys o made) behind q),
        ),
        cc,
      )
  next_in found (x ∷ xs) next mid (inl (marked, inr h)) = absurd h
  next_in found (x ∷ xs) next mid (inr h) = let never : x ∷ xs ≡ [] = h.1.0 in absurd (cc)

  pub types_in : (n : ℕ) (found : Tall (List FullWhere)) (xs : List Lexeme) (next : Option Lexeme)
      (all : Joined (List FullWhere)) → Rounds test (λ a x. Ends (step a x)) n (apart found) (End.whole all) xs next
      → Ended (is w.And) all.joined (λ ys after. Further One found ys after all.made) xs next
  types_in zero found xs next all (stops, nil, whole) =
      let ends : End.whole all ≡ End.whole (apart found) = whole in
      let same : apart found ≡ all = cc in
      let none : [] ≡ xs = sym nil in
      subst (λ (all : Joined (List FullWhere)). Ended (is w.And) all.joined
      (λ ys after. Further One found ys after all.made) xs next)
      same (([], nil, refl), subst (λ (l : List Lexeme). begins (is w.And) (head_or l next) ≡ false) nil stops)
  types_in (suc n) found [] next all h = absurd h
  types_in (suc n) found (x ∷ xs) next all (goes, inr h) = absurd h
  types_in (suc n) found (x ∷ xs) next all (goes, inl (mid, ys, zs, split, q, r)) =
      by_round (λ made r. types_in n (more found made) zs next all r) (next_in found ys (head_or zs next) mid q)
    where
      by_round : ((made : Tall FullWhere) → Rounds test (λ a x. Ends (step a x)) n (apart (more found made))
          (End.whole all) zs next
          → Ended (is w.And) all.joined (λ ys after. Further One (more found made) ys after all.made) zs next)
          → ((made : Tall FullWhere) × One ys (head_or zs next) made × (mid ≡ apart (more found made)))
          ⊎ ((ys ≡ []) × (begins (is w.TypeWord) (head_or zs next) ≡ false) ×
          (mid ≡ record { made = found; joined = true }))
          → Ended (is w.And) all.joined (λ ys after. Further One found ys after all.made) (x ∷ xs) next
      by_round go (inl (made, part, is_one)) =
          let rest = go made
          (subst (λ (mid : Joined (List FullWhere)). Rounds test (λ a x. Ends (step a x)) n mid (End.whole all) zs
          next) is_one r) in
          let text : x ∷ (ys ++ zs) ≡ x ∷ xs = ap (λ (l : List Lexeme). x ∷ l) (sym split) in
          subst (λ (l : List Lexeme). Ended (is w.And) all.joined (λ ys after. Further One found ys after all.made) l
          next) text
          (ended_behind (is w.And) (λ us after. Further One (more found made) us after all.made)
          (λ us after. Further One found us after all.made) (x ∷ ys) zs next all.joined
          (λ us after same further. (
            made ∷ further.0,
            (
              x,
              ys,
              us,
              refl,
              goes,
              subst (λ (o : Option Lexeme). One ys o made) (sym same) part,
              further.1,
            ),
            further.2,
          )) rest)
      by_round go (inr (none, stops, is_joined)) =
          let end = no_more n mid all zs next (ap (λ (mid : Joined (List FullWhere)). mid.joined) is_joined) r in
          let same : record { made = found; joined = true } ≡ all = sym (end.1 ∙ is_joined) in
          let text : xs ≡ [] = split ∙ ap (λ (l : List Lexeme). l ++ zs) none ∙ end.0 in
          subst (λ (all : Joined (List FullWhere)). Ended (is w.And) all.joined
          (λ ys after. Further One found ys after all.made) (x ∷ xs) next)
          same (
            [],
            x,
            ap (λ (l : List Lexeme). x ∷ l) text,
            goes,
            ([], refl, refl),
            subst (λ (l : List Lexeme). begins (is w.TypeWord) (head_or l next) ≡ false) end.0 stops,
          )

  -- ---- .. and back

  next_of : (found : Tall (List FullWhere)) (xs : List Lexeme) (next : Option Lexeme) (made : Tall FullWhere)
      → One xs next made → Phrase (and_type tys found) xs next (apart (more found made))
  unfolding and_type one_type where_type if_marked
  next_of found [] next made h = never_refused [] next made h.1
  next_of found (x ∷ xs) next made (inl (marked, q)) =
      inl (marked, inl (made, xs, [], sym (append-nil xs), q, (refl, refl)))
  next_of found (x ∷ xs) next made (inr h) = never_refused (x ∷ xs) next made h.1

  joined_of : (found : Tall (List FullWhere)) (next : Option Lexeme) → begins (is w.TypeWord) next ≡ false
      → Phrase (and_type tys found) [] next (record { made = found; joined = true })
  unfolding and_type if_marked
  joined_of found next stops = (stops, (refl, refl))

  types_on : (parts : List (Tall FullWhere)) (found : Tall (List FullWhere)) (ys zs : List Lexeme)
      (next : Option Lexeme)
      (all : Joined (List FullWhere)) → AreFurther One ys (head_or zs next) parts
      → Phrase (where_types_from tys (apart (mores found parts))) zs next all
      → Phrase (where_types_from tys (apart found)) (ys ++ zs) next all
  unfolding where_types_from
  types_on [] found ys zs next all none h =
      subst (λ (l : List Lexeme). Phrase (where_types_from tys (apart found)) (l ++ zs) next all) (sym none) h
  types_on (part ∷ parts) found ys zs next all (x, us, vs, split, ands, one, further) h =
      subst (λ (l : List Lexeme). Phrase (where_types_from tys (apart found)) l next all)
      (ap (λ (l : List Lexeme). x ∷ l) (sym (append_assoc us vs zs)) ∙ ap (λ (l : List Lexeme). l ++ zs) (sym split))
      (round us (vs ++ zs) ands
      (subst (λ (o : Option Lexeme). One us o part) (head_both vs zs next) one)
      (types_on parts (more found part) vs zs next all further h))
    where
      round : (us ws : List Lexeme) → is w.And x ≡ true → One us (head_or ws next) part
          → Phrase (where_types_from tys (apart (more found part))) ws next all
          → Phrase (where_types_from tys (apart found)) (x ∷ (us ++ ws)) next all
      round us ws ands one rest =
          (same_many test step (apart found)).back (x ∷ (us ++ ws)) next all
          (inl (ands, inl (apart (more found part), us, ws, refl, next_of found us (head_or ws next) part one, rest)))

  quiet : (found : Joined (List FullWhere)) (next : Option Lexeme) → found.joined ≡ true
      → begins (test found) next ≡ false
  quiet found None joined = refl
  quiet found (Some x) joined = ap (λ (b : Bool). goes_on_with w.And b x) joined

  types_of : (joined : Bool) (found made : Tall (List FullWhere)) (xs : List Lexeme) (next : Option Lexeme)
      → Ended (is w.And) joined (λ ys after. Further One found ys after made) xs next
      → Phrase (where_types_from tys (apart found)) xs next (record { made = made; joined = joined })
  unfolding where_types_from
  types_of false found made xs next ((parts, further, same), stops) =
      let all = apart (mores found parts) in
      let whole = types_on parts found xs [] next all further
      ((same_many test step all).back [] next all (stops, (refl, refl))) in
      subst (λ (made : Tall (List FullWhere)). Phrase (where_types_from tys (apart found)) xs next (apart made))
      (sym same)
      (subst (λ (l : List Lexeme). Phrase (where_types_from tys (apart found)) l next all) (append-nil xs) whole)
  types_of true found made xs next (ys, x, split, ands, (parts, further, same), stops) =
      let some : Tall (List FullWhere) = mores found parts in
      let all : Joined (List FullWhere) = record { made = some; joined = true } in
      let none = (same_many test step all).back [] next all (quiet all next refl, (refl, refl)) in
      let end = (same_many test step (apart some)).back (x ∷ []) next all
      (inl (ands, inl (all, [], [], refl, joined_of some next stops, none))) in
      subst (λ (made : Tall (List FullWhere)). Phrase (where_types_from tys (apart found)) xs next
      (record { made = made; joined = true })) (sym same)
      (subst (λ (l : List Lexeme). Phrase (where_types_from tys (apart found)) l next all) (sym split)
      (types_on parts found ys (x ∷ []) next all further end))

  -- ---- all types behind `where`

  abbrev pub All : Form (Tall (List FullWhere))
  All xs next made =
      (part : Tall FullWhere) × (parts : List (Tall FullWhere)) × AreJoined One xs next (part ∷ parts)
      × (made ≡ mores (one part) parts)

  pub whole_in : (xs : List Lexeme) (next : Option Lexeme) (all : Joined (List FullWhere))
      → Phrase (where_types tys) xs next all
      → Ended (is w.And) all.joined (λ ys after. All ys after all.made) xs next
  unfolding where_types where_types_from
  whole_in xs next all (inl (first, ys, zs, split, p, (n, r))) =
      subst (λ (l : List Lexeme). Ended (is w.And) all.joined (λ ys after. All ys after all.made) l next) (sym split)
      (ended_behind (is w.And) (λ us after. Further One (one first) us after all.made)
      (λ us after. All us after all.made) ys zs next
      all.joined
      (λ us after same further. (
        first,
        further.0,
        (
          ys,
          us,
          refl,
          subst (λ (o : Option Lexeme). One ys o first) (sym same) p,
          further.1,
        ),
        further.2,
      )) (types_in n (one first) zs next all r))
  whole_in xs next all (inr h) = absurd h

  pub whole_of : (joined : Bool) (made : Tall (List FullWhere)) (xs : List Lexeme) (next : Option Lexeme)
      → Ended (is w.And) joined (λ ys after. All ys after made) xs next
      → Phrase (where_types tys) xs next (record { made = made; joined = joined })
  unfolding where_types
  whole_of false made xs next ((part, parts, (ys, zs, split, p, further), same), stops) =
      inl (part, ys, zs, split, p, types_of false (one part) made zs next ((parts, further, same), stops))
  whole_of true made xs next (us, x, split, ands, (part, parts, (ys, zs, parted, p, further), same), stops) = inl (
    part,
    ys,
    zs ++ x ∷ [],
    split ∙ ap (λ (l : List Lexeme). l ++ x ∷ []) parted ∙ append_assoc ys zs (x ∷ []),
    subst (λ (o : Option Lexeme). One ys o part) (head_both zs (x ∷ []) next) p,
    types_of true (one part) made (zs ++ x ∷ []) next (zs, x, refl, ands, (parts, further, same), stops),
  )
