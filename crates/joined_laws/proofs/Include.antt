-- `include` with names of signatures, or with a signature expression.
use Rattle.std.proofs.Common.{◌≡◌, ◌⊎◌, ℕ, zero, suc, ◌+◌, ◌-◌, List, [], ◌∷◌, ◌++◌, Option, Some, None, is_some, Bool, true, false, nat_lt, inl, inr, refl, sym, ap, ap₂, subst, ◌∙◌, arith}
use Rattle.std.proofs.lemmas.List.{append_assoc, append-nil}
use Rattle.grammars.specs.Grammar.{Grammar, End, Ends, Phrase, Rounds, head_or, begins}
use Rattle.sml_lexer.specs.declared.lexeme.Lexeme.{Lexeme}
use Rattle.sml_trees.specs.declared.full_sig.FullSigExp.{FullSigExp}
use Rattle.sml_trees.specs.declared.full_sig.FullSigExp.TheVariants as s
use Rattle.sml_trees.specs.declared.full_sig.FullSpec.{FullSpec}
use Rattle.sml_trees.specs.declared.full_sig.FullSpec.TheVariants as p
use Rattle.sml_trees.specs.declared.name.At.{At}
use Rattle.sml_trees.specs.declared.name.Name.{Name}
use Rattle.core_types.specs.Types.{ty}
use Rattle.phrase_reading.specs.Names.{and_one, taken_from}
use Rattle.phrase_reading.specs.Sized.{leaf, over}
use Rattle.phrase_reading.specs.Words.{g, is, at, named, made, and_then}
use Rattle.phrase_reading.specs.declared.tall.Tall.{Tall}
use Rattle.sml_lexer.specs.declared.words.Word.TheVariants as w
use Rattle.signature_parser.specs.Joined.{module_name_text, module_name_of, is_module_name, apart, alone}
use Rattle.signature_parser.specs.SigLevels.{sig_level, sig_below}
use Rattle.signature_parser.specs.Signatures.{starts_sig, sig_body, sig_name, sig_within, sig_behind, where_behind, wheres, goes_on_with}
use Rattle.signature_parser.specs.Specifications.{include_sig, include_names, named_sig, include_where, include_one, include_from, include_spec}
use Rattle.signature_parser.specs.declared.joined.Joined.{Joined}
use Rattle.head_laws.specs.Forms.{IsTree}
use Rattle.head_laws.proofs.Algebra.{Took, Began, began, same_many, same_pure, either_in, never_refused, within_in, if_taken_in, if_taken_of, if_taken_or, if_mark_in, if_mark_of, if_mark_or}
use Rattle.head_laws.proofs.Lexemes.{word_is, no_name}
use Rattle.joined_laws.specs.Forms.{AreSigids, IsInclude, IsSigid, IsNoWhere, IsNoAnd, IsNoSigid}
use Rattle.joined_laws.specs.Promises.{IncludesAreOfTheForms}
use Rattle.joined_laws.proofs.Bindings.{name_no_word}
use Rattle.joined_laws.proofs.Signatures.{room_for, whole, behind, behind_is}
use Rattle.joined_laws.proofs.SigPassing.{include_where_none}
use Rattle.joined_laws.proofs.Trees.{either_no, some_or, module_name_is, module_name_has}
use Rattle.joined_laws.proofs.Whole.{signatures_are, alone_in, alone_has}

abbrev name_test : List Name → Lexeme → Bool
name_test found x = is_some (module_name_of x)

abbrev name_step : List Name → Lexeme → g (List Name)
name_step found x = Grammar.bind (made (named x) (module_name_of x)) (λ b. Grammar.pure (and_one found b))

-- one more name
name_in : (found : List Name) (x : Lexeme) (one : Option (List ℕ)) (ys : List Lexeme) (next : Option Lexeme)
    (mid : List Name) → Phrase (Grammar.bind (made (named x) one) (λ b. Grammar.pure (and_one found b))) ys next mid
    → (text : List ℕ) × (one ≡ Some text) × (ys ≡ []) × (mid ≡ and_one found (named x text))
name_in found x None ys next mid (inl (b, us, vs, split, h, q)) = never_refused us (head_or vs next) b h
name_in found x None ys next mid (inr h) = absurd h
name_in found x (Some text) ys next mid h =
    let rest = (same_pure (named x text) (λ b. Grammar.pure (and_one found b))).to ys next mid h in
    let ends : End.whole mid ≡ End.whole (and_one found (named x text)) = rest.1 in (text, refl, rest.0, cc)

-- names, one behind the other
names_in : (n : ℕ) (found all : List Name) (xs : List Lexeme) (next : Option Lexeme)
    → Rounds name_test (λ a x. Ends (name_step a x)) n found (End.whole all) xs next
    → (names : List Name) × AreSigids xs names × (all ≡ found ++ names)
names_in zero found all xs next h =
    let ends : End.whole all ≡ End.whole found = h.2 in
    let same : all ≡ found = cc in ([], h.1, same ∙ sym (append-nil found))
names_in (suc n) found all [] next h = absurd h
names_in (suc n) found all (x ∷ xs) next (goes, inr h) = absurd h
names_in (suc n) found all (x ∷ xs) next (goes, inl (mid, ys, zs, split, q, r)) =
    let one = name_in found x (module_name_of x) ys (head_or zs next) mid q in
    let rest = names_in n mid all zs next r in
    let text : xs ≡ zs = split ∙ ap (λ (l : List Lexeme). l ++ zs) one.2 in (
      named x one.0 ∷ rest.0,
      (x, zs, ap (λ (l : List Lexeme). x ∷ l) text, module_name_is x one.0 one.1, rest.1),
      rest.2 ∙ ap (λ (l : List Name). l ++ rest.0) one.3 ∙ append_assoc found (named x one.0 ∷ []) rest.0,
    )

-- .. and back
step_of : (found : List Name) (x : Lexeme) (one : Option (List ℕ)) (called : Name) (next : Option Lexeme)
    → one ≡ Some called.text → called ≡ named x called.text
    → Phrase (Grammar.bind (made (named x) one) (λ b. Grammar.pure (and_one found b))) [] next (and_one found called)
step_of found x None called next is_text same = absurd (cc)
step_of found x (Some text) called next is_text same =
    let texts : called.text ≡ text = cc in
    let names : called ≡ named x text = same ∙ ap (named x) texts in
    (same_pure (named x text) (λ b. Grammar.pure (and_one found b))).back [] next (and_one found called)
    (refl, ap (λ (called : Name). End.whole (and_one found called)) names)

names_of : (names found : List Name) (xs : List Lexeme) (next : Option Lexeme) → AreSigids xs names
    → begins is_module_name next ≡ false → Phrase (Grammar.many name_test name_step found) xs next (found ++ names)
names_of [] found xs next none stops =
    subst (λ (l : List Lexeme). Phrase (Grammar.many name_test name_step found) l next (found ++ [])) (sym none)
    ((same_many name_test name_step found).back [] next (found ++ []) (stops, (refl, ap End.whole (append-nil found))))
names_of (called ∷ names) found xs next (x, ys, split, name, rest) stops =
    let has = module_name_has x called name in
    let step = step_of found x (module_name_of x) called (head_or ys next) has name.2 in
    let tail = names_of names (and_one found called) ys next rest stops in
    let whole = (same_many name_test name_step found).back (x ∷ ys) next (and_one found called ++ names)
    (inl (ap is_some has, inl (and_one found called, [], ys, refl, step, tail))) in
    subst (λ (l : List Lexeme). Phrase (Grammar.many name_test name_step found) l next (found ++ called ∷ names))
    (sym split)
    (subst (λ (all : List Name). Phrase (Grammar.many name_test name_step found) (x ∷ ys) next all)
    (append_assoc found (called ∷ []) names) whole)

-- ---- a name with types

-- what goes on behind a name and its `where`
abbrev types_of_name : ℕ → Name → g (Joined FullSigExp)
types_of_name m called =
    Grammar.bind (where_behind (suc m) (ty m) (record { line = called.line; col = called.col }) (named_sig called))
    (λ first. wheres (suc m) (ty m) (record { line = called.line; col = called.col }) first)

name_where_of : (m : ℕ) (x v : Lexeme) (text : List ℕ) (xs : List Lexeme) (next : Option Lexeme)
    (all : Joined FullSigExp)
    → module_name_of x ≡ Some text → is w.Where v ≡ true → Phrase (types_of_name m (named x text)) xs next all
    → Phrase (whole m) (x ∷ v ∷ xs) next all
unfolding wheres
name_where_of m x v text xs next all name goes h =
    inl (
      some_or (is w.Sig x) (is_module_name x) (ap is_some name),
      inl (
        room_for m,
        subst (λ (grammar : g (Joined FullSigExp)). Phrase grammar (v ∷ xs) next all) (sym (behind_is m x))
            (inl (
              sig_name x text,
              [],
              v ∷ xs,
              refl,
              either_no (is w.Sig x) (sig_body (sig_level m) (at x)) (made (sig_name x) (module_name_of x)) [] (Some v)
                  (sig_name x text)
                  (name_no_word x text w.Sig name)
                  (subst (λ (found : Option (List ℕ)). Phrase (made (sig_name x) found) [] (Some v) (sig_name x text))
                  (sym name) (refl, refl)),
              (same_many (λ left x. goes_on_with w.Where left.joined x)
                  (λ left _. where_behind (suc m) (ty m) (at x) left.made)
                  (apart (sig_name x text))).back (v ∷ xs) next all (inl (goes, h)),
            )),
      ),
    )

-- what a signature that begins with a name is
record NameFirst (m : ℕ) (x : Lexeme) (text : List ℕ) (rest : List Lexeme) (next : Option Lexeme)
    (all : Joined FullSigExp) : Type 0 where
  is_where : (rest ≡ []) × (all ≡ apart (sig_name x text))
      ⊎ ((v : Lexeme) × (xs : List Lexeme) × (rest ≡ v ∷ xs) × (is w.Where v ≡ true)
      × Phrase (types_of_name m (named x text)) xs next all)

name_where_in : (m : ℕ) (x : Lexeme) (text : List ℕ) (rest : List Lexeme) (next : Option Lexeme)
    (all : Joined FullSigExp)
    → module_name_of x ≡ Some text → Phrase (behind m x) rest next all → NameFirst m x text rest next all
unfolding wheres
name_where_in m x text rest next all name (inl (first, us, zs, split, p, q)) =
    by_name (either_in (is w.Sig x) (sig_body (sig_level m) (at x)) (made (sig_name x) (module_name_of x)) us
    (head_or zs next) first p)
  where
    by_rounds : (ws : List Lexeme) → rest ≡ ws → Phrase (wheres (suc m) (ty m) (at x) (apart (sig_name x text))) ws
        next all
        → NameFirst m x text rest next all
    by_rounds ws same h =
        by_choice ws same ((same_many (λ left x. goes_on_with w.Where left.joined x)
        (λ left _. where_behind (suc m) (ty m) (at x) left.made) (apart (sig_name x text))).to ws next all h)
      where
        by_choice : (ws : List Lexeme) → rest ≡ ws → Phrase (Grammar.on (λ x. goes_on_with w.Where false x)
            (λ v. Grammar.bind (where_behind (suc m) (ty m) (at x) (sig_name x text))
            (λ b. wheres (suc m) (ty m) (at x) b))
            (Grammar.pure (apart (sig_name x text)))) ws next all → NameFirst m x text rest next all
        by_choice [] same h =
            let ends : End.whole all ≡ End.whole (apart (sig_name x text)) = h.1.1 in
            record { is_where = inl (same, cc) }
        by_choice (v ∷ vs) same (inl h) = record { is_where = inr (v, vs, same, h.0, h.1) }
        by_choice (v ∷ vs) same (inr h) = let never : v ∷ vs ≡ [] = h.1.0 in absurd (cc)

    by_text : (found : Option (List ℕ)) → found ≡ Some text → Phrase (made (sig_name x) found) us (head_or zs next)
        first
        → NameFirst m x text rest next all
    by_text None is_text h = absurd (cc)
    by_text (Some other) is_text h =
        let texts : other ≡ text = cc in
        let ends : End.whole first ≡ End.whole (sig_name x other) = h.1 in
        let named_so : first ≡ sig_name x other = cc in
        by_rounds zs (split ∙ ap (λ (l : List Lexeme). l ++ zs) h.0)
        (subst (λ (first : Tall FullSigExp). Phrase (wheres (suc m) (ty m) (at x) (apart first)) zs next all)
        (named_so ∙ ap (sig_name x) texts) q)

    by_name : ((is w.Sig x ≡ true) × Phrase (sig_body (sig_level m) (at x)) us (head_or zs next) first)
        ⊎ ((is w.Sig x ≡ false) × Phrase (made (sig_name x) (module_name_of x)) us (head_or zs next) first)
        → NameFirst m x text rest next all
    by_name (inl h) = let no_sig = name_no_word x text w.Sig name in absurd (cc (h.0, no_sig))
    by_name (inr h) = by_text (module_name_of x) name h.1
name_where_in m x text rest next all name (inr h) = absurd h

-- ---- `include`

-- a where is no name
where_no_name : (x : Lexeme) → is w.Where x ≡ true → is_some (module_name_of x) ≡ false
where_no_name x goes = ap (λ (found : Option (List ℕ)). is_some (and_then module_name_text found))
    (no_name x w.Where (word_is w.Where x goes))

-- one signature by several lexemes is no name
two_no_sigid : (x y : Lexeme) (ys : List Lexeme) (sig : FullSigExp) → IsSigid (x ∷ y ∷ ys) sig → ⊥
two_no_sigid x y ys sig (z, called, split, name, same) = absurd (cc)

-- a signature of so many levels
level_of : (m : ℕ) (xs : List Lexeme) (next : Option Lexeme) (all : Joined FullSigExp) → Phrase (whole m) xs next all
    → Phrase (sig_level (suc m)).sig xs next all
unfolding sig_below
level_of m xs next all h = h

of_level : (m : ℕ) (xs : List Lexeme) (next : Option Lexeme) (all : Joined FullSigExp)
    → Phrase (sig_level (suc m)).sig xs next all → Phrase (whole m) xs next all
unfolding sig_below
of_level m xs next all h = h

abbrev included : At → Tall FullSigExp → Tall FullSpec
included place sig = over (λ (sig : FullSigExp). p.Include sig place) sig

-- a part and what is made of it
include_part : (each : g (Tall FullSigExp)) (place : At) (xs : List Lexeme) (next : Option Lexeme)
    (found : Tall FullSpec)
    → Phrase (Grammar.bind each (λ sig. Grammar.pure (included place sig))) xs next found
    → (sig : Tall FullSigExp) × Phrase each xs next sig × (found ≡ included place sig)
include_part each place xs next found (inl (sig, us, vs, split, q, r)) =
    let ends : End.whole found ≡ End.whole (included place sig) = r.1 in
    let text : us ≡ xs = sym (split ∙ ap (λ (l : List Lexeme). us ++ l) r.0 ∙ append-nil us) in
    let behind : head_or vs next ≡ next = ap (λ (l : List Lexeme). head_or l next) r.0 in (
      sig,
      subst (λ (l : List Lexeme). Phrase each l next sig) text
          (subst (λ (o : Option Lexeme). Phrase each us o sig) behind q),
      cc,
    )
include_part each place xs next found (inr h) = absurd h

include_sig_in : (n : ℕ) (place : At) (xs : List Lexeme) (next : Option Lexeme) (found : Tall FullSpec)
    → Phrase (include_sig (sig_level n) place) xs next found
    → (sig : Tall FullSigExp) × Phrase (alone (sig_level n).sig) xs next sig × (found ≡ included place sig)
unfolding include_sig
include_sig_in n place xs next found h = include_part (alone (sig_level n).sig) place xs next found h

-- types of so many levels
abbrev name_part : ℕ → At → Name → g (Tall FullSpec)
name_part m place called =
    Grammar.bind (where_behind (suc m) (ty m) (record { line = called.line; col = called.col }) (named_sig called))
    (λ first. Grammar.bind (alone (wheres (suc m) (ty m) (record { line = called.line; col = called.col }) first))
    (λ sig. Grammar.pure (included place sig)))

name_part_is : (m : ℕ) (place : At) (called : Name) → include_where (suc m) place called ≡ name_part m place called
unfolding include_where
name_part_is m place called = let same : suc m - 1 ≡ m = omega arith in rw same refl

include_where_in : (m : ℕ) (place : At) (called : Name) (xs : List Lexeme) (next : Option Lexeme)
    (found : Tall FullSpec)
    → Phrase (include_where (suc m) place called) xs next found
    → (sig : Tall FullSigExp) × Phrase (types_of_name m called) xs next (apart sig) × (found ≡ included place sig)
include_where_in m place called xs next found h =
    by_parts (subst (λ (grammar : g (Tall FullSpec)). Phrase grammar xs next found) (name_part_is m place called) h)
  where
    by_parts : Phrase (name_part m place called) xs next found
        → (sig : Tall FullSigExp) × Phrase (types_of_name m called) xs next (apart sig) × (found ≡ included place sig)
    by_parts (inl (first, us, vs, split, q, r)) =
        let it = include_part (alone (wheres (suc m) (ty m) (record { line = called.line; col = called.col }) first))
        place vs next found r in (
          it.0,
          inl (
            first,
            us,
            vs,
            split,
            q,
            alone_in (wheres (suc m) (ty m) (record { line = called.line; col = called.col }) first) vs next it.0 it.1,
          ),
          it.2,
        )
    by_parts (inr h) = absurd h

include_where_of : (m : ℕ) (place : At) (called : Name) (xs : List Lexeme) (next : Option Lexeme)
    (sig : Tall FullSigExp)
    → Phrase (types_of_name m called) xs next (apart sig)
    → Phrase (include_where (suc m) place called) xs next (included place sig)
include_where_of m place called xs next sig (inl (first, us, vs, split, q, r)) =
    subst (λ (grammar : g (Tall FullSpec)). Phrase grammar xs next (included place sig))
    (sym (name_part_is m place called))
    (inl (
      first,
      us,
      vs,
      split,
      q,
      inl (
        sig,
        vs,
        [],
        sym (append-nil vs),
        alone_has (wheres (suc m) (ty m) (record { line = called.line; col = called.col }) first) vs next sig r,
        (refl, refl),
      ),
    ))
include_where_of m place called xs next sig (inr h) = absurd h

include_in : (n : ℕ) (place : At) (xs : List Lexeme) (next : Option Lexeme) (found : Tall FullSpec) → IsNoAnd next
    → Phrase (include_spec n (sig_level n) place) xs next found → IsInclude n place xs next found.tree
unfolding include_spec include_from include_names include_one taken_from
include_in n place xs next found no_and h =
    by_first (if_taken_in module_name_of named (include_from n place) (include_sig (sig_level n) place) xs next found h)
  where
    by_names : (x y : Lexeme) (a b : List ℕ) (rest : List Lexeme) → xs ≡ x ∷ y ∷ rest → module_name_of x ≡ Some a
        → module_name_of y ≡ Some b → Phrase (include_names place (named x a ∷ named y b ∷ [])) rest next found
        → IsInclude n place xs next found.tree
    by_names x y a b rest split first second (inl (all, us, vs, parted, (k, r), q)) =
        let names = names_in k (named x a ∷ named y b ∷ []) all us (head_or vs next) r in
        let ends : End.whole found ≡ End.whole (leaf (p.IncludeNames all place)) = q.1 in
        let same : found ≡ leaf (p.IncludeNames all place) = cc in
        let text : rest ≡ us = parted ∙ ap (λ (l : List Lexeme). us ++ l) q.0 ∙ append-nil us in
        inl (
          named x a,
          named y b ∷ names.0,
          (
            x,
            y ∷ us,
            split ∙ ap (λ (l : List Lexeme). x ∷ y ∷ l) text,
            module_name_is x a first,
            (y, us, refl, module_name_is y b second, names.1),
          ),
          ap (λ (found : Tall FullSpec). found.tree) same ∙ ap (λ (all : List Name). p.IncludeNames all place) names.2,
        )
    by_names x y a b rest split first second (inr h) = absurd h

    by_sig : (sig : Tall FullSigExp) → Phrase (alone (sig_level n).sig) xs next sig → (IsSigid xs sig.tree → ⊥)
        → found ≡ over (λ (sig : FullSigExp). p.Include sig place) sig → IsInclude n place xs next found.tree
    by_sig sig it other same =
        inr (
          sig.tree,
          ((signatures_are n xs next sig.tree no_and).0 (sig.height, it)).0,
          other,
          ap (λ (found : Tall FullSpec). found.tree) same,
        )

    by_where : (k : ℕ) → k ≡ n → (x v : Lexeme) (a : List ℕ) (rest : List Lexeme) → xs ≡ x ∷ v ∷ rest
        → module_name_of x ≡ Some a → is w.Where v ≡ true → Phrase (include_where k place (named x a)) rest next found
        → IsInclude n place xs next found.tree
    by_where zero same x v a rest split name goes h = absurd
        ((include_where_none place (named x a)).gives rest next found h)
    by_where (suc m) same x v a rest split name goes h =
        let it = include_where_in m place (named x a) rest next found h in
        let p = name_where_of m x v a rest next (apart it.0) name goes it.1 in
        by_sig it.0
        (subst (λ (l : List Lexeme). Phrase (alone (sig_level n).sig) l next it.0) (sym split)
        (subst (λ (n : ℕ). Phrase (alone (sig_level n).sig) (x ∷ v ∷ rest) next it.0) same
        (alone_has (sig_level (suc m)).sig (x ∷ v ∷ rest) next it.0 (level_of m (x ∷ v ∷ rest) next (apart it.0) p))))
        (λ one. two_no_sigid x v rest it.0.tree (subst (λ (l : List Lexeme). IsSigid l it.0.tree) split one)) it.2

    by_one : (x : Lexeme) (a : List ℕ) (rest : List Lexeme) → xs ≡ x ∷ rest → module_name_of x ≡ Some a
        → Began (is w.Where) rest (λ _ more. Phrase (include_where n place (named x a)) more next found)
        ⊎ ((begins (is w.Where) (head_or rest next) ≡ false)
        × Phrase (Grammar.pure (leaf (p.IncludeNames (named x a ∷ []) place))) rest next found)
        → IsInclude n place xs next found.tree
    by_one x a rest split name (inl it) =
        by_where n refl x it.first a it.rest (split ∙ ap (λ (l : List Lexeme). x ∷ l) it.written) name it.is it.then_so
    by_one x a rest split name (inr h) =
        let ends : End.whole found ≡ End.whole (leaf (p.IncludeNames (named x a ∷ []) place)) = h.1.1 in
        let same : found ≡ leaf (p.IncludeNames (named x a ∷ []) place) = cc in
        inl (
          named x a,
          [],
          (x, [], split ∙ ap (λ (l : List Lexeme). x ∷ l) h.1.0, module_name_is x a name, refl),
          ap (λ (found : Tall FullSpec). found.tree) same,
        )

    by_second : (x : Lexeme) (a : List ℕ) (rest : List Lexeme) → xs ≡ x ∷ rest → module_name_of x ≡ Some a
        → Took module_name_of rest (λ y b more. Phrase (include_names place (named x a ∷ named y b ∷ [])) more next
        found)
        ⊎ ((begins is_module_name (head_or rest next) ≡ false) × Phrase (include_one n place (named x a)) rest next
        found)
        → IsInclude n place xs next found.tree
    by_second x a rest split name (inl it) =
        by_names x it.first a it.found it.rest (split ∙ ap (λ (l : List Lexeme). x ∷ l) it.written) name it.is
        it.then_so
    by_second x a rest split name (inr h) =
        by_one x a rest split name (if_mark_in w.Where (include_where n place (named x a))
        (Grammar.pure (leaf (p.IncludeNames (named x a ∷ []) place))) rest next found h.1)

    by_alone : begins is_module_name (head_or xs next) ≡ false → Phrase (include_sig (sig_level n) place) xs next found
        → IsInclude n place xs next found.tree
    by_alone stops h =
        let it = include_sig_in n place xs next found h in
        by_sig it.0 it.1 (λ one. absurd (no_first one)) it.2
      where
        no_first : {sig : FullSigExp} → IsSigid xs sig → ⊥
        no_first (x, called, split, name, same) =
            let some : is_module_name x ≡ true = ap is_some (module_name_has x called name) in
            let none : is_module_name x ≡ false = subst
            (λ (l : List Lexeme). begins is_module_name (head_or l next) ≡ false) split stops in
            absurd (cc)

    by_first : Took module_name_of xs (λ x a rest. Phrase (include_from n place (named x a)) rest next found)
        ⊎ ((begins is_module_name (head_or xs next) ≡ false) × Phrase (include_sig (sig_level n) place) xs next found)
        → IsInclude n place xs next found.tree
    by_first (inl it) =
        by_second it.first it.found it.rest it.written it.is
        (if_taken_in module_name_of named (λ second. include_names place (named it.first it.found ∷ second ∷ []))
        (include_one n place (named it.first it.found)) it.rest next found it.then_so)
    by_first (inr h) = by_alone h.0 h.1

-- .. and back

include_of : (n : ℕ) (place : At) (xs : List Lexeme) (next : Option Lexeme) (spec : FullSpec) → IsNoAnd next
    → IsNoWhere next → IsNoSigid next → IsInclude n place xs next spec → IsTree (include_spec n (sig_level n) place) xs
    next spec
unfolding include_spec include_from include_names include_one include_sig taken_from
include_of n place xs next spec no_and no_where no_name (inl (called, [], (x, ys, split, name, none), same)) =
    let has = module_name_has x called name in
    let found : Tall FullSpec = leaf (p.IncludeNames (called ∷ []) place) in
    let text : xs ≡ x ∷ [] = split ∙ ap (λ (l : List Lexeme). x ∷ l) none in
    let one = if_taken_or module_name_of named (λ second. include_names place (named x called.text ∷ second ∷ []))
    (include_one n place (named x called.text)) [] next found no_name
    (if_mark_or w.Where (include_where n place (named x called.text))
    (Grammar.pure (leaf (p.IncludeNames (named x called.text ∷ []) place))) [] next found no_where
    (refl, ap (λ (called : Name). End.whole (leaf (p.IncludeNames (called ∷ []) place))) name.2)) in (
      1,
      subst (λ (spec : FullSpec). Phrase (include_spec n (sig_level n) place) xs next (leaf spec)) (sym same)
          (subst (λ (l : List Lexeme). Phrase (include_spec n (sig_level n) place) l next found) (sym text)
          (if_taken_of module_name_of named (include_from n place) (include_sig (sig_level n) place) x called.text []
          next found has one)),
    )
include_of n place xs next spec no_and no_where no_name
    (inl (called, second ∷ names, (x, ys, split, name, (y, zs, parted, after, rest)), same)) =
    let has = module_name_has x called name in
    let also = module_name_has y second after in
    let found : Tall FullSpec = leaf (p.IncludeNames (called ∷ second ∷ names) place) in
    let text : xs ≡ x ∷ y ∷ zs = split ∙ ap (λ (l : List Lexeme). x ∷ l) parted in
    let list : called ∷ second ∷ names ≡ named x called.text ∷ named y second.text ∷ names =
    ap₂ (λ (a b : Name). a ∷ b ∷ names) name.2 after.2 in
    let more = names_of names (named x called.text ∷ named y second.text ∷ []) zs next rest no_name in
    let two = if_taken_of module_name_of named (λ second. include_names place (named x called.text ∷ second ∷ []))
    (include_one n place (named x called.text)) y second.text zs next found also
    (inl (
      named x called.text ∷ named y second.text ∷ names,
      zs,
      [],
      sym (append-nil zs),
      more,
      (refl, ap (λ (all : List Name). End.whole (leaf (p.IncludeNames all place))) list),
    )) in (
      1,
      subst (λ (spec : FullSpec). Phrase (include_spec n (sig_level n) place) xs next (leaf spec)) (sym same)
          (subst (λ (l : List Lexeme). Phrase (include_spec n (sig_level n) place) l next found) (sym text)
          (if_taken_of module_name_of named (include_from n place) (include_sig (sig_level n) place) x called.text
          (y ∷ zs) next found has two)),
    )
include_of zero place xs next spec no_and no_where no_name (inr (sig, it, other, same)) = absurd it
include_of (suc m) place xs next spec no_and no_where no_name (inr (sig, it, other, same)) =
    by_level ((signatures_are (suc m) xs next sig no_and).1 (it, no_where))
  where
    by_rest : (height : ℕ) (x : Lexeme) (text : List ℕ) (rest : List Lexeme) → xs ≡ x ∷ rest → module_name_of x ≡ Some
        text
        → NameFirst m x text rest next (apart (record { tree = sig; height = height }))
        → Phrase (include_spec (suc m) (sig_level (suc m)) place) xs next
        (included place (record { tree = sig; height = height }))
    by_rest height x text rest split name first = by_case first.is_where
      where
        by_case : (rest ≡ []) × (apart (record { tree = sig; height = height }) ≡ apart (sig_name x text))
            ⊎ ((v : Lexeme) × (us : List Lexeme) × (rest ≡ v ∷ us) × (is w.Where v ≡ true)
            × Phrase (types_of_name m (named x text)) us next (apart (record { tree = sig; height = height })))
            → Phrase (include_spec (suc m) (sig_level (suc m)) place) xs next
            (included place (record { tree = sig; height = height }))
        by_case (inl h) =
            let tree : sig ≡ s.Named (named x text) (at x) = ap (λ (found : Joined FullSigExp). found.made.tree) h.1 in
            absurd (other (
              x,
              named x text,
              split ∙ ap (λ (l : List Lexeme). x ∷ l) h.0,
              module_name_is x text name,
              tree,
            ))
        by_case (inr (v, us, parted, goes, h)) =
            let found : Tall FullSigExp = record { tree = sig; height = height } in
            let all = included place found in
            let called = named x text in
            let types = include_where_of m place called us next found h in
            let one = if_taken_or module_name_of named (λ second. include_names place (called ∷ second ∷ []))
            (include_one (suc m) place called) (v ∷ us) next all (where_no_name v goes)
            (if_mark_of w.Where (include_where (suc m) place called)
            (Grammar.pure (leaf (p.IncludeNames (called ∷ []) place)))
            v us next all goes types) in
            subst (λ (l : List Lexeme). Phrase (include_spec (suc m) (sig_level (suc m)) place) l next all)
            (ap (λ (l : List Lexeme). x ∷ l) (sym parted) ∙ sym split)
            (if_taken_of module_name_of named (include_from (suc m) place) (include_sig (sig_level (suc m)) place) x
            text (v ∷ us) next all name one)

    by_first : (height : ℕ) → Phrase (alone (sig_level (suc m)).sig) xs next (record { tree = sig; height = height })
        → (x : Lexeme) (rest : List Lexeme) → xs ≡ x ∷ rest → Phrase (behind m x) rest next
        (apart (record { tree = sig; height = height }))
        → (name : Option (List ℕ)) → module_name_of x ≡ name
        → Phrase (include_spec (suc m) (sig_level (suc m)) place) xs next
        (included place (record { tree = sig; height = height }))
    by_first height h x rest split q (Some text) name =
        by_rest height x text rest split name (name_where_in m x text rest next
        (apart (record { tree = sig; height = height })) name q)
    by_first height h x rest split q None name =
        if_taken_or module_name_of named (include_from (suc m) place) (include_sig (sig_level (suc m)) place) xs next
        (included place (record { tree = sig; height = height }))
        (subst (λ (l : List Lexeme). begins is_module_name (head_or l next) ≡ false) (sym split) (ap is_some name))
        (inl (record { tree = sig; height = height }, xs, [], sym (append-nil xs), h, (refl, refl)))

    by_level : IsTree (alone (sig_level (suc m)).sig) xs next sig → IsTree
        (include_spec (suc m) (sig_level (suc m)) place) xs next spec
    by_level (height, h) =
        let found : Tall FullSigExp = record { tree = sig; height = height } in
        let p = of_level m xs next (apart found) (alone_in (sig_level (suc m)).sig xs next found h) in
        let it = began starts_sig (sig_behind (suc m) (sig_level m)) xs next (apart found) p in
        let room = within_in (nat_lt 0 (suc m)) (sig_within (suc m) (sig_level m) it.first) it.rest next (apart found)
        it.then_so in
        let q = subst (λ (grammar : g (Joined FullSigExp)). Phrase grammar it.rest next (apart found))
        (behind_is m it.first) room.1 in (
          height + 1,
          subst (λ (spec : FullSpec). Phrase (include_spec (suc m) (sig_level (suc m)) place) xs next
              (record { tree = spec; height = height + 1 }))
              (sym same) (by_first height h it.first it.rest it.written q (module_name_of it.first) refl),
        )

pub includes_are : IncludesAreOfTheForms
includes_are most place lexemes next spec no_and no_where no_name = (
  λ h. include_in most place lexemes next (record { tree = spec; height = h.0 }) no_and h.1,
  λ h. include_of most place lexemes next spec no_and no_where no_name h,
)
