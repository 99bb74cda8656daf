-- The laws.
use Rattle.std.proofs.Common.{◌≡◌, ◌⊎◌, ℕ, zero, suc, ◌≤◌, List, [], ◌∷◌, ◌++◌, map, Option, Some, Bool, true, false, inl, inr, refl, sym, ap, ap₂, subst, ◌∙◌, arith}
use Rattle.std.proofs.lemmas.List.{append-nil}
use Rattle.grammars.specs.Grammar.{Grammar, End, Phrase, head_or, begins}
use Rattle.sml_lexer.specs.declared.lexeme.Lexeme.{Lexeme}
use Rattle.sml_trees.specs.declared.full_sig.FullSigBind.{FullSigBind, roll-FullSigBind}
use Rattle.sml_trees.specs.declared.full_sig.FullSigExp.{FullSigExp}
use Rattle.sml_trees.specs.declared.name.Name.{Name}
use Rattle.phrase_reading.specs.Sized.{part, one}
use Rattle.phrase_reading.specs.Words.{g, is, named}
use Rattle.phrase_reading.specs.declared.tall.Tall.{Tall}
use Rattle.sml_lexer.specs.declared.words.Word.{Word}
use Rattle.sml_lexer.specs.declared.words.Word.TheVariants as w
use Rattle.signature_parser.specs.Joined.{apart, joined_part, alone, bindings}
use Rattle.signature_parser.specs.SigLevels.{sig_level, sig_below}
use Rattle.signature_parser.specs.Signatures.{sig_of, sig_bind}
use Rattle.signature_parser.specs.declared.joined.Joined.{Joined}
use Rattle.head_laws.specs.Forms.{IsTree}
use Rattle.head_laws.proofs.Passing.{Keeps, keep_refuse, keep_bind, keep_then, keep_on, keep_none}
use Rattle.head_laws.proofs.Algebra.{began, same_token, either_in, never_refused}
use Rattle.joined_laws.specs.Forms.{Form, AreFurther, AreJoined, IsSigexp, IsSigBind, IsNoWhere, IsNoAnd}
use Rattle.joined_laws.specs.Promises.{SignaturesAreOfTheForms, BindingsAreJoined}
use Rattle.joined_laws.proofs.Parts.{mores, Ended, ended_behind, IsReader}
use Rattle.joined_laws.proofs.Bindings.{Bind, AllBinds, whole_in, whole_of}
use Rattle.joined_laws.proofs.Signatures.{Sig, sig_reader}
use Rattle.joined_laws.proofs.Trees.{tree_of, more_trees, module_name_is, module_name_has, sig_down, sigexp_up, sig_low}

-- ---- where no level is left

none_keep : Keeps (sig_level 0).sig (λ _. ⊥)
none_keep = keep_on (λ _. keep_none) keep_refuse

alone_none : Keeps (alone (sig_level 0).sig) (λ _. ⊥)
unfolding alone
alone_none = keep_bind none_keep (λ found never. absurd never)

bindings_none : (mark : Word) → Keeps (bindings (sig_bind (sig_level 0).sig mark)) (λ _. ⊥)
unfolding bindings sig_bind
bindings_none mark =
    keep_then (λ called. keep_bind (keep_then (λ _. keep_bind none_keep (λ found never. absurd never)))
    (λ first never. absurd never))

-- ---- signatures

abbrev with_and : {A : Type 0} → Tall A → Bool → Joined A
with_and made joined = record { made = made; joined = joined }

-- a signature that stands alone
pub alone_in : {A : Type 0} (each : g (Joined A)) (xs : List Lexeme) (next : Option Lexeme) (found : Tall A)
    → Phrase (alone each) xs next found → Phrase each xs next (apart found)
unfolding alone
alone_in {A} each xs next found (inl (all, ys, zs, split, p, q)) =
    by_test (either_in all.joined Grammar.refuse (Grammar.pure all.made) zs next found q)
  where
    by_test : ((all.joined ≡ true) × Phrase (Grammar.refuse {A = Tall A}) zs next found)
        ⊎ ((all.joined ≡ false) × Phrase (Grammar.pure all.made) zs next found) → Phrase each xs next (apart found)
    by_test (inl h) = never_refused zs next found h.1
    by_test (inr h) =
        let ends : End.whole found ≡ End.whole all.made = h.1.1 in
        let made : all.made ≡ found = cc in
        let same : all ≡ apart found = ap₂ with_and made h.0 in
        let text : ys ≡ xs = sym (split ∙ ap (λ (l : List Lexeme). ys ++ l) h.1.0 ∙ append-nil ys) in
        let behind : head_or zs next ≡ next = ap (λ (l : List Lexeme). head_or l next) h.1.0 in
        subst (λ (all : Joined A). Phrase each xs next all) same
        (subst (λ (l : List Lexeme). Phrase each l next all) text
        (subst (λ (o : Option Lexeme). Phrase each ys o all) behind p))
alone_in each xs next found (inr h) = absurd h

pub alone_has : {A : Type 0} (each : g (Joined A)) (xs : List Lexeme) (next : Option Lexeme) (found : Tall A)
    → Phrase each xs next (apart found) → Phrase (alone each) xs next found
unfolding alone
alone_has each xs next found p = inl (apart found, xs, [], sym (append-nil xs), p, (refl, refl))

pub signatures_are : SignaturesAreOfTheForms
unfolding sig_below
signatures_are zero lexemes next sig no_and =
    (λ h. absurd (alone_none.gives lexemes next _ h.1), λ h. absurd h.0)
signatures_are (suc n) lexemes next sig no_and = (into, back)
  where
    into : IsTree (alone (sig_level (suc n)).sig) lexemes next sig → IsSigexp (suc n) lexemes next sig × IsNoWhere next
    into (height, h) =
        let found : Tall FullSigExp = record { tree = sig; height = height } in
        let p = alone_in (sig_level (suc n)).sig lexemes next found h in
        let ended = (sig_reader n).into lexemes next (apart found) p in
        (sig_down n ended.0.0 (suc n) lexemes next found (sig_low n lexemes next (apart found) p) ended.0.1, ended.1)

    back : IsSigexp (suc n) lexemes next sig × IsNoWhere next → IsTree (alone (sig_level (suc n)).sig) lexemes next sig
    back (it, no_where) =
        let found = sigexp_up n (suc n) lexemes next sig (omega arith) it in
        let p = (sig_reader n).last lexemes next found.0 found.3 no_and no_where in (
          found.0.height,
          alone_has (sig_level (suc n)).sig lexemes next (record { tree = sig; height = found.0.height })
              (subst (λ (tree : FullSigExp). Phrase (sig_level (suc n)).sig lexemes next
              (apart (record { tree = tree; height = found.0.height })))
              found.1 p),
        )

-- ---- bindings

module _ (n : ℕ) (mark : Word) where
  abbrev bound : Name → FullSigExp → FullSigBind
  bound called sig = roll-FullSigBind (record { name = called; sig = sig })

  -- the mark and the signature behind a name
  abbrev Bound : Name → Form (Tall FullSigBind)
  Bound called xs next made =
      (y : Lexeme) × (ys : List Lexeme) × (inner : Tall FullSigExp) × (xs ≡ y ∷ ys) × (is mark y ≡ true)
      × Sig n ys next inner × (inner.height ≤ suc n) × (made ≡ part (bound called) inner)

  abbrev each : Name → g (Joined FullSigBind)
  each called = sig_bind (sig_of (suc n) (sig_level n)) mark called

  abbrev behind_mark : Name → g (Joined FullSigBind)
  behind_mark called =
      Grammar.bind (sig_of (suc n) (sig_level n)) (λ found. Grammar.pure (joined_part (bound called) found))

  bound_in : (called : Name) (xs : List Lexeme) (next : Option Lexeme) (all : Joined FullSigBind)
      → Phrase (each called) xs next all
      → Ended (is w.Where) all.joined (λ ys after. Bound called ys after all.made) xs next
  unfolding sig_bind
  bound_in called xs next all h =
      let it = began (is mark) (λ _. behind_mark called) xs next all
      ((same_token mark (behind_mark called)).to xs next all h) in
      by_sig it.first it.rest it.written it.is it.then_so
    where
      by_sig : (y : Lexeme) (ys : List Lexeme) → xs ≡ y ∷ ys → is mark y ≡ true → Phrase (behind_mark called) ys next
          all
          → Ended (is w.Where) all.joined (λ ys after. Bound called ys after all.made) xs next
      by_sig y ys written marked (inl (found, us, zs, split, p, q)) =
          let ends : End.whole all ≡ End.whole (joined_part (bound called) found) = q.1 in
          let same : joined_part (bound called) found ≡ all = cc in
          let text : us ≡ ys = sym (split ∙ ap (λ (l : List Lexeme). us ++ l) q.0 ∙ append-nil us) in
          let behind : head_or zs next ≡ next = ap (λ (l : List Lexeme). head_or l next) q.0 in
          let whole : Phrase (sig_of (suc n) (sig_level n)) ys next found =
          subst (λ (l : List Lexeme). Phrase (sig_of (suc n) (sig_level n)) l next found) text
          (subst (λ (o : Option Lexeme). Phrase (sig_of (suc n) (sig_level n)) us o found) behind p) in
          let ended = (sig_reader n).into ys next found whole in
          let low = sig_low n ys next found whole in
          subst (λ (all : Joined FullSigBind). Ended (is w.Where) all.joined
          (λ ys after. Bound called ys after all.made) xs next) same
          (subst (λ (l : List Lexeme). Ended (is w.Where) found.joined
          (λ ys after. Bound called ys after (part (bound called) found.made)) l next)
          (sym written)
          (ended_behind (is w.Where) (λ us after. Sig n us after found.made)
          (λ us after. Bound called us after (part (bound called) found.made)) (y ∷ []) ys next found.joined
          (λ us after _ sig. (y, us, found.made, refl, marked, sig, low, refl)) ended))
      by_sig y ys written marked (inr h) = absurd h

  bound_of : (called : Name) (y : Lexeme) (ys : List Lexeme) (next : Option Lexeme) (inner : Joined FullSigExp)
      → is mark y ≡ true → Phrase (sig_of (suc n) (sig_level n)) ys next inner
      → Phrase (each called) (y ∷ ys) next (joined_part (bound called) inner)
  unfolding sig_bind
  bound_of called y ys next inner marked p =
      (same_token mark (behind_mark called)).back (y ∷ ys) next (joined_part (bound called) inner)
      (inl (marked, inl (inner, ys, [], sym (append-nil ys), p, (refl, refl))))

  bound_last : (called : Name) (xs : List Lexeme) (next : Option Lexeme) (made : Tall FullSigBind)
      → Bound called xs next made → begins (is w.And) next ≡ false → begins (is w.Where) next ≡ false
      → Phrase (each called) xs next (apart made)
  bound_last called xs next made (y, ys, inner, split, marked, sig, low, same) no_and no_where =
      subst (λ (made : Tall FullSigBind). Phrase (each called) xs next (apart made)) (sym same)
      (subst (λ (l : List Lexeme). Phrase (each called) l next (apart (part (bound called) inner))) (sym split)
      (bound_of called y ys next (apart inner) marked ((sig_reader n).last ys next inner sig no_and no_where)))

  bound_more : (called : Name) (xs : List Lexeme) (x : Lexeme) (next : Option Lexeme) (made : Tall FullSigBind)
      → Bound called xs (Some x) made → is w.And x ≡ true → begins (is w.TypeWord) next ≡ false
      → Phrase (each called) xs (Some x) (apart made) ⊎ Phrase (each called) (xs ++ x ∷ []) next
      (record { made = made; joined = true })
  bound_more called xs x next made (y, ys, inner, split, marked, sig, low, same) ands stops =
      by_one ((sig_reader n).more ys x next inner sig ands stops)
    where
      by_one : Phrase (sig_of (suc n) (sig_level n)) ys (Some x) (apart inner)
          ⊎ Phrase (sig_of (suc n) (sig_level n)) (ys ++ x ∷ []) next (record { made = inner; joined = true })
          → Phrase (each called) xs (Some x) (apart made) ⊎ Phrase (each called) (xs ++ x ∷ []) next
          (record { made = made; joined = true })
      by_one (inl p) =
          inl (subst (λ (made : Tall FullSigBind). Phrase (each called) xs (Some x) (apart made)) (sym same)
          (subst (λ (l : List Lexeme). Phrase (each called) l (Some x) (apart (part (bound called) inner))) (sym split)
          (bound_of called y ys (Some x) (apart inner) marked p)))
      by_one (inr p) =
          inr (subst (λ (made : Tall FullSigBind). Phrase (each called) (xs ++ x ∷ []) next
          (record { made = made; joined = true })) (sym same)
          (subst (λ (l : List Lexeme). Phrase (each called) (l ++ x ∷ []) next
          (record { made = part (bound called) inner; joined = true })) (sym split)
          (bound_of called y (ys ++ x ∷ []) next (record { made = inner; joined = true }) marked p)))

  reader : (called : Name) → IsReader (each called) (Bound called) (is w.Where)
  reader called = record { into = bound_in called; last = bound_last called; more = bound_more called }

  abbrev One : Form (Tall FullSigBind)
  One = Bind each Bound (is w.Where) reader

  -- ---- their trees

  bind_down : (xs : List Lexeme) (next : Option Lexeme) (made : Tall FullSigBind) → One xs next made
      → IsSigBind (suc n) mark xs next made.tree
  bind_down xs next made (x, rest, text, written, name, (y, ys, inner, split, marked, sig, low, same)) = (
    x,
    y,
    ys,
    named x text,
    inner.tree,
    written ∙ ap (λ (l : List Lexeme). x ∷ l) split,
    module_name_is x text name,
    marked,
    sig_down n sig.0 (suc n) ys next inner low sig.1,
    ap (λ (made : Tall FullSigBind). made.tree) same,
  )

  bind_up : (xs : List Lexeme) (next : Option Lexeme) (bind : FullSigBind) → IsSigBind (suc n) mark xs next bind
      → (made : Tall FullSigBind) × (made.tree ≡ bind) × One xs next made
  bind_up xs next bind (x, y, zs, called, sig, split, name, marked, it, same) =
      let inner = sigexp_up n (suc n) zs next sig (omega arith) it in
      let so : named x called.text ≡ called = sym name.2 in
      let tree : bound (named x called.text) inner.0.tree ≡ bind =
      ap (λ (called : Name). bound called inner.0.tree) so ∙ ap (bound called) inner.1 ∙ sym same in (
        part (bound (named x called.text)) inner.0,
        tree,
        (
          x,
          y ∷ zs,
          called.text,
          split,
          module_name_has x called name,
          (y, zs, inner.0, refl, marked, inner.3, inner.2, refl),
        ),
      )

  further_down : (xs : List Lexeme) (next : Option Lexeme) (parts : List (Tall FullSigBind))
      → AreFurther One xs next parts → AreFurther (IsSigBind (suc n) mark) xs next (map tree_of parts)
  further_down xs next [] h = h
  further_down xs next (part ∷ parts) (x, ys, zs, split, ands, p, rest) =
      (x, ys, zs, split, ands, bind_down ys (head_or zs next) part p, further_down zs next parts rest)

  further_up : (xs : List Lexeme) (next : Option Lexeme) (binds : List FullSigBind)
      → AreFurther (IsSigBind (suc n) mark) xs next binds
      → (parts : List (Tall FullSigBind)) × (map tree_of parts ≡ binds) × AreFurther One xs next parts
  further_up xs next [] h = ([], refl, h)
  further_up xs next (bind ∷ binds) (x, ys, zs, split, ands, p, rest) =
      let first = bind_up ys (head_or zs next) bind p in
      let others = further_up zs next binds rest in
      let same : map tree_of (first.0 ∷ others.0) ≡ bind ∷ binds =
      ap₂ (λ (a : FullSigBind) (b : List FullSigBind). a ∷ b) first.1 others.1 in
      (first.0 ∷ others.0, same, (x, ys, zs, split, ands, first.2, others.2))

  into : (xs : List Lexeme) (next : Option Lexeme) (binds : List FullSigBind)
      → IsTree (bindings each) xs next binds
      → AreJoined (IsSigBind (suc n) mark) xs next binds × IsNoAnd next × IsNoWhere next
  into xs next binds (height, h) =
      by_parts (whole_in each Bound (is w.Where) reader xs next (record { tree = binds; height = height }) h)
    where
      by_parts : AllBinds each Bound (is w.Where) reader xs next (record { tree = binds; height = height })
          → AreJoined (IsSigBind (suc n) mark) xs next binds × IsNoAnd next × IsNoWhere next
      by_parts it =
          let trees : it.first.tree ∷ map tree_of it.parts ≡ binds =
          sym (ap (λ (found : Tall (List FullSigBind)). found.tree) it.made_of ∙ more_trees (one it.first) it.parts) in (
            subst (λ (trees : List FullSigBind). AreJoined (IsSigBind (suc n) mark) xs next trees) trees (
              it.are.0,
              it.are.1,
              it.are.2,
              bind_down it.are.0 (head_or it.are.1 next) it.first it.are.3,
              further_down it.are.1 next it.parts it.are.4,
            ),
            it.no_and,
            it.stops,
          )

  back : (xs : List Lexeme) (next : Option Lexeme) (binds : List FullSigBind)
      → AreJoined (IsSigBind (suc n) mark) xs next binds → IsNoAnd next → IsNoWhere next
      → IsTree (bindings each) xs next binds
  back xs next [] h no_and no_where = absurd h
  back xs next (bind ∷ binds) (ys, zs, split, p, rest) no_and no_where =
      let first = bind_up ys (head_or zs next) bind p in
      let others = further_up zs next binds rest in
      let all : Tall (List FullSigBind) = mores (one first.0) others.0 in
      let trees : all.tree ≡ bind ∷ binds =
      more_trees (one first.0) others.0
      ∙ ap₂ (λ (a : FullSigBind) (b : List FullSigBind). a ∷ b) first.1 others.1 in
      let whole = whole_of each Bound (is w.Where) reader first.0 others.0 xs next (ys, zs, split, first.2, others.2)
      no_and no_where in (
        all.height,
        subst (λ (trees : List FullSigBind). Phrase (bindings each) xs next
            (record { tree = trees; height = all.height })) trees whole,
      )

none_joined : (mark : Word) (xs : List Lexeme) (next : Option Lexeme) (binds : List FullSigBind)
    → AreJoined (IsSigBind 0 mark) xs next binds → ⊥
none_joined mark xs next [] h = h
none_joined mark xs next (bind ∷ binds) (
  ys,
  zs,
  split,
  (x, y, us, called, sig, parted, name, marked, never, same),
  rest,
) =
    never

pub bindings_are : BindingsAreJoined
unfolding sig_below
bindings_are zero mark lexemes next binds =
    (λ h. absurd ((bindings_none mark).gives lexemes next _ h.1), λ h. absurd (none_joined mark lexemes next binds h.0))
bindings_are (suc n) mark lexemes next binds =
    (λ h. into n mark lexemes next binds h, λ h. back n mark lexemes next binds h.0 h.1 h.2)
