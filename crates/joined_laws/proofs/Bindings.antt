-- Bindings that `and` joins, where the `and` behind one may have been taken with it.
use Rattle.std.proofs.Common.{◌≡◌, ◌⊎◌, ℕ, zero, suc, List, [], ◌∷◌, ◌++◌, Option, Some, None, is_some, Bool, true, false, inl, inr, refl, sym, ap, subst, ◌∙◌}
use Rattle.std.proofs.lemmas.List.{append_assoc, append-nil}
use Rattle.grammars.specs.Grammar.{Grammar, End, Ends, Phrase, Rounds, head_or, begins}
use Rattle.sml_lexer.specs.declared.lexeme.Lexeme.{Lexeme}
use Rattle.sml_trees.specs.declared.name.Name.{Name}
use Rattle.phrase_reading.specs.Sized.{one, more}
use Rattle.phrase_reading.specs.Words.{g, is, name_of, named, made}
use Rattle.phrase_reading.specs.declared.tall.Tall.{Tall}
use Rattle.sml_lexer.specs.declared.words.Word.{Word}
use Rattle.sml_lexer.specs.declared.words.Word.TheVariants as w
use Rattle.signature_parser.specs.Joined.{module_name_text, module_name_of, apart, joined_one, joined_more, alone_of, goes_on, next_name_after, next_binding, bindings_from, bindings}
use Rattle.signature_parser.specs.declared.joined.Joined.{Joined}
use Rattle.head_laws.proofs.Algebra.{Took, Same, same_itself, same_trans, same_bind, same_pure, same_three, same_many, taken_in, taken_of, either_in, never_refused}
use Rattle.head_laws.proofs.Lexemes.{word_is, no_name, then_some}
use Rattle.joined_laws.specs.Forms.{Form, AreFurther, AreJoined}
use Rattle.joined_laws.proofs.Parts.{mores, Ended, IsReader}

-- a name is no reserved word
pub name_no_word : (x : Lexeme) (text : List ℕ) (v : Word) → module_name_of x ≡ Some text → is v x ≡ false
name_no_word x text v name = by_word (is v x) refl
  where
    by_word : (b : Bool) → is v x ≡ b → b ≡ false
    by_word false h = refl
    by_word true h =
        let none = no_name x v (word_is v x h) in
        let found = then_some module_name_text (name_of x) text name in
        let some : name_of x ≡ Some found.0 = found.1 in
        absurd (cc)

module _ {A : Type 0} (each : Name → g (Joined A)) (Is : Name → Form (Tall A)) (stop : Lexeme → Bool)
    (reads : (called : Name) → IsReader (each called) (Is called) stop) where
  -- one binding, with its name
  abbrev pub Bind : Form (Tall A)
  Bind xs next made =
      (x : Lexeme) × (ys : List Lexeme) × (text : List ℕ) × (xs ≡ x ∷ ys) × (module_name_of x ≡ Some text)
      × Is (named x text) ys next made

  abbrev test : Joined (List A) → Lexeme → Bool
  test found x = goes_on found.joined x

  -- the `and` that was taken behind a phrase, if one was
  abbrev IsBefore : Bool → List Lexeme → Option Lexeme → Type 0
  IsBefore true before after = (x : Lexeme) × (before ≡ x ∷ []) × (is w.And x ≡ true)
  IsBefore false before after = (before ≡ []) × (begins stop after ≡ false)

  -- a phrase without it
  without : (Q : List Lexeme → Option Lexeme → Type 0) (joined : Bool) (ys zs : List Lexeme) (next : Option Lexeme)
      → Ended stop joined Q ys (head_or zs next)
      → (us before : List Lexeme) × (ys ≡ us ++ before) × Q us (head_or (before ++ zs) next)
      × IsBefore joined before (head_or zs next)
  without Q true ys zs next (us, x, split, ands, q, stops) = (us, x ∷ [], split, q, (x, refl, ands))
  without Q false ys zs next (q, stops) = (ys, [], sym (append-nil ys), q, (refl, stops))

  -- what bindings go on to
  record Binds (found : Tall (List A)) (xs : List Lexeme) (next : Option Lexeme) (all : Tall (List A)) : Type 0 where
    parts : List (Tall A)
    further : AreFurther Bind xs next parts
    made_of : all ≡ mores found parts
    no_and : begins (is w.And) next ≡ false
    stops : begins stop next ≡ false

  abbrev Round : ℕ → Joined (List A) → List Lexeme → Option Lexeme → Joined (List A) → Type 0
  Round n found xs next all = Rounds test (λ a x. Ends (next_binding each a x)) n found (End.whole all) xs next

  -- a binding behind its name, and what it makes
  part_in : (found : Joined (List A)) (called : Name) (xs : List Lexeme) (next : Option Lexeme) (mid : Joined (List A))
      → Phrase (Grammar.bind (each called) (λ got. Grammar.pure (joined_more found got))) xs next mid
      → (got : Joined A) × Phrase (each called) xs next got × (mid ≡ joined_more found got)
  part_in found called xs next mid (inl (got, ys, zs, split, p, q)) =
      let ends : End.whole mid ≡ End.whole (joined_more found got) = q.1 in
      let all : ys ≡ xs = sym (split ∙ ap (λ (l : List Lexeme). ys ++ l) q.0 ∙ append-nil ys) in
      let behind : head_or zs next ≡ next = ap (λ (l : List Lexeme). head_or l next) q.0 in (
        got,
        subst (λ (l : List Lexeme). Phrase (each called) l next got) all
            (subst (λ (o : Option Lexeme). Phrase (each called) ys o got) behind p),
        cc,
      )
  part_in found called xs next mid (inr h) = absurd h

  -- a name that was begun already
  given_in : (found : Option (List ℕ)) (x : Lexeme) (go : Name → g (Joined (List A))) (xs : List Lexeme)
      (next : Option Lexeme) (mid : Joined (List A)) → Phrase (Grammar.bind (made (named x) found) go) xs next mid
      → (text : List ℕ) × (found ≡ Some text) × Phrase (go (named x text)) xs next mid
  given_in None x go xs next mid (inl (called, ys, zs, split, p, q)) = never_refused ys (head_or zs next) called p
  given_in None x go xs next mid (inr h) = absurd h
  given_in (Some text) x go xs next mid h = (text, refl, (same_pure (named x text) go).to xs next mid h)

  given_of : (found : Option (List ℕ)) (text : List ℕ) (x : Lexeme) (go : Name → g (Joined (List A)))
      (xs : List Lexeme) (next : Option Lexeme) (all : Joined (List A)) → found ≡ Some text
      → Phrase (go (named x text)) xs next all → Phrase (Grammar.bind (made (named x) found) go) xs next all
  given_of None text x go xs next all is_text h = absurd (cc)
  given_of (Some other) text x go xs next all is_text h =
      let same : text ≡ other = cc in
      (same_pure (named x other) go).back xs next all
      (subst (λ (text : List ℕ). Phrase (go (named x text)) xs next all) same h)

  named_in : (joined : Bool) (before : List Lexeme) (x : Lexeme) (go : Name → g (Joined (List A))) (xs : List Lexeme)
      (next : Option Lexeme) (mid : Joined (List A)) → IsBefore joined before (Some x) → goes_on joined x ≡ true
      → Phrase (Grammar.bind (next_name_after joined x) go) xs next mid
      → (a y : Lexeme) × (ys : List Lexeme) × (text : List ℕ) × (before ++ x ∷ xs ≡ a ∷ y ∷ ys) × (is w.And a ≡ true)
      × (module_name_of y ≡ Some text) × Phrase (go (named y text)) ys next mid
  named_in true before x go xs next mid (a, is_before, ands) goes h =
      let found = given_in (module_name_of x) x go xs next mid h in
      (a, x, xs, found.0, ap (λ (l : List Lexeme). l ++ x ∷ xs) is_before, ands, found.1, found.2)
  named_in false before x go xs next mid (none, stops) goes h =
      let found = taken_in module_name_of named go Grammar.refuse xs next mid h in (
        x,
        found.first,
        found.rest,
        found.found,
        ap (λ (l : List Lexeme). l ++ x ∷ xs) none ∙ ap (λ (l : List Lexeme). x ∷ l) found.written,
        goes,
        found.is,
        found.then_so,
      )

  binds_in : (all : Joined (List A)) → all.joined ≡ false → (n : ℕ) (found : Tall (List A)) (joined : Bool)
      (before xs : List Lexeme) (next : Option Lexeme) → IsBefore joined before (head_or xs next)
      → Round n (record { made = found; joined = joined }) xs next all → Binds found (before ++ xs) next all.made
  unfolding next_binding
  binds_in all whole zero found true before xs next is_before h =
      let ends : End.whole all ≡ End.whole (record { made = found; joined = true }) = h.2 in
      let same : all ≡ record { made = found; joined = true } = cc in
      let joined : all.joined ≡ true = ap (λ (it : Joined (List A)). it.joined) same in absurd (cc)
  binds_in all whole zero found false before (x ∷ xs) next is_before h = let never : x ∷ xs ≡ [] = h.1 in absurd (cc)
  binds_in all whole zero found false before [] next (none, stops) h =
      let ends : End.whole all ≡ End.whole (record { made = found; joined = false }) = h.2 in
      let same : all ≡ record { made = found; joined = false } = cc in
      record {
        parts = [];
        further = append-nil before ∙ none;
        made_of = ap (λ (it : Joined (List A)). it.made) same;
        no_and = h.0;
        stops = stops;
      }
  binds_in all whole (suc n) found joined before [] next is_before h = absurd h
  binds_in all whole (suc n) found joined before (x ∷ xs) next is_before (goes, inr h) = absurd h
  binds_in all whole (suc n) found joined before (x ∷ xs) next is_before (goes, inl (mid, ys, zs, split, q, r)) =
      let it = named_in joined before x
      (λ called. Grammar.bind (each called) (λ got. Grammar.pure
      (joined_more (record { made = found; joined = joined }) got))) ys (head_or zs next) mid is_before goes q in
      let part = part_in (record { made = found; joined = joined }) (named it.1 it.3) it.2 (head_or zs next) mid it.7 in
      let got = part.0 in
      let cut = without (λ us after. Is (named it.1 it.3) us after got.made) got.joined it.2 zs next
      ((reads (named it.1 it.3)).into it.2 (head_or zs next) got part.1) in
      let rest = binds_in all whole n (more found got.made) got.joined cut.1 zs next cut.4
      (subst (λ (mid : Joined (List A)). Round n mid zs next all) part.2 r) in
      let text : before ++ x ∷ xs ≡ it.0 ∷ (it.1 ∷ cut.0) ++ (cut.1 ++ zs) =
      ap (λ (l : List Lexeme). before ++ x ∷ l) split ∙ sym (append_assoc before (x ∷ ys) zs)
      ∙ ap (λ (l : List Lexeme). l ++ zs) it.4 ∙ ap (λ (l : List Lexeme). it.0 ∷ it.1 ∷ (l ++ zs)) cut.2
      ∙ ap (λ (l : List Lexeme). it.0 ∷ it.1 ∷ l) (append_assoc cut.0 cut.1 zs) in
      record {
        parts = got.made ∷ rest.parts;
        further = (it.0, it.1 ∷ cut.0, cut.1 ++ zs, text, it.5, (it.1, cut.0, it.3, refl, it.6, cut.3), rest.further);
        made_of = rest.made_of;
        no_and = rest.no_and;
        stops = rest.stops;
      }

  -- all bindings
  pub record AllBinds (xs : List Lexeme) (next : Option Lexeme) (all : Tall (List A)) : Type 0 where
    pub first : Tall A
    pub parts : List (Tall A)
    pub are : AreJoined Bind xs next (first ∷ parts)
    pub made_of : all ≡ mores (one first) parts
    pub no_and : begins (is w.And) next ≡ false
    pub stops : begins stop next ≡ false

  pub whole_in : (xs : List Lexeme) (next : Option Lexeme) (all : Tall (List A))
      → Phrase (bindings each) xs next all → AllBinds xs next all
  unfolding bindings bindings_from
  whole_in xs next all h =
      by_name (taken_in module_name_of named
      (λ called. Grammar.bind (each called) (λ first. Grammar.bind (bindings_from each (joined_one first)) alone_of))
      Grammar.refuse xs next all h)
    where
      by_end : (x : Lexeme) (text : List ℕ) (first : Joined A) (ys zs : List Lexeme) → xs ≡ x ∷ (ys ++ zs)
          → module_name_of x ≡ Some text → Phrase (each (named x text)) ys (head_or zs next) first
          → (found : Joined (List A)) (n : ℕ) → Round n (joined_one first) zs next found → found.joined ≡ false
          → all ≡ found.made → AllBinds xs next all
      by_end x text first ys zs split name p found n r whole same =
          let cut = without (λ us after. Is (named x text) us after first.made) first.joined ys zs next
          ((reads (named x text)).into ys (head_or zs next) first p) in
          let rest = binds_in found whole n (one first.made) first.joined cut.1 zs next cut.4 r in
          let parted : xs ≡ (x ∷ cut.0) ++ (cut.1 ++ zs) =
          split ∙ ap (λ (l : List Lexeme). x ∷ (l ++ zs)) cut.2
          ∙ ap (λ (l : List Lexeme). x ∷ l) (append_assoc cut.0 cut.1 zs) in
          record {
            first = first.made;
            parts = rest.parts;
            are = (x ∷ cut.0, cut.1 ++ zs, parted, (x, cut.0, text, refl, name, cut.3), rest.further);
            made_of = same ∙ rest.made_of;
            no_and = rest.no_and;
            stops = rest.stops;
          }

      by_found : (x : Lexeme) (text : List ℕ) (first : Joined A) (ys zs : List Lexeme) → xs ≡ x ∷ (ys ++ zs)
          → module_name_of x ≡ Some text → Phrase (each (named x text)) ys (head_or zs next) first
          → Phrase (Grammar.bind (bindings_from each (joined_one first)) alone_of) zs next all → AllBinds xs next all
      by_found x text first ys zs split name p (inl (found, us, vs, parted, (n, r), q)) =
          by_alone (either_in found.joined Grammar.refuse (Grammar.pure found.made) vs next all q)
        where
          by_alone : ((found.joined ≡ true) × Phrase (Grammar.refuse {A = Tall (List A)}) vs next all)
              ⊎ ((found.joined ≡ false) × Phrase (Grammar.pure found.made) vs next all) → AllBinds xs next all
          by_alone (inl h) = never_refused vs next all h.1
          by_alone (inr h) =
              let ends : End.whole all ≡ End.whole found.made = h.1.1 in
              let text_of : us ≡ zs = sym (parted ∙ ap (λ (l : List Lexeme). us ++ l) h.1.0 ∙ append-nil us) in
              let behind : head_or vs next ≡ next = ap (λ (l : List Lexeme). head_or l next) h.1.0 in
              by_end x text first ys zs split name p found n
              (subst (λ (l : List Lexeme). Round n (joined_one first) l next found) text_of
              (subst (λ (o : Option Lexeme). Round n (joined_one first) us o found) behind r)) h.0 (cc)
      by_found x text first ys zs split name p (inr h) = absurd h

      by_name : Took module_name_of xs (λ x text rest. Phrase (Grammar.bind (each (named x text))
          (λ first. Grammar.bind (bindings_from each (joined_one first)) alone_of)) rest next all)
          → AllBinds xs next all
      by_name it = by_first it.then_so
        where
          by_first : Phrase (Grammar.bind (each (named it.first it.found))
              (λ first. Grammar.bind (bindings_from each (joined_one first)) alone_of)) it.rest next all
              → AllBinds xs next all
          by_first (inl (first, ys, zs, split, p, q)) =
              by_found it.first it.found first ys zs (it.written ∙ ap (λ (l : List Lexeme). it.first ∷ l) split) it.is
              p q
          by_first (inr h) = absurd h

  -- ---- .. and back

  abbrev next_one : (Joined A → Joined (List A)) → Name → g (Joined (List A))
  next_one wrap called = Grammar.bind (each called) (λ got. bindings_from each (wrap got))

  round_same : (found : Joined (List A)) (x : Lexeme)
      → Same (Grammar.bind (next_binding each found x) (λ b. bindings_from each b))
      (Grammar.bind (next_name_after found.joined x) (λ called. next_one (λ got. joined_more found got) called))
  unfolding next_binding
  round_same found x =
      same_trans (same_three _ _ _) (same_bind same_itself (λ called. same_trans (same_three _ _ _)
      (same_bind same_itself (λ got. same_pure _ _))))

  -- a further binding, whose `and` was taken or not
  round_of : (found : Tall (List A)) (joined : Bool) (before : List Lexeme) (a y : Lexeme) (text : List ℕ)
      (ys xs : List Lexeme) (next : Option Lexeme) (all : Joined (List A)) → is w.And a ≡ true
      → module_name_of y ≡ Some text → IsBefore joined before (Some a) → before ++ xs ≡ a ∷ y ∷ ys
      → Phrase (next_one (λ got. joined_more (record { made = found; joined = joined }) got) (named y text)) ys next all
      → Phrase (bindings_from each (record { made = found; joined = joined })) xs next all
  unfolding bindings_from
  round_of found true before a y text ys xs next all ands name (b, is_before, bs) split h =
      let parted : b ∷ xs ≡ a ∷ y ∷ ys = sym (ap (λ (l : List Lexeme). l ++ xs) is_before) ∙ split in
      let same : xs ≡ y ∷ ys = cc in
      subst (λ (l : List Lexeme). Phrase (bindings_from each (record { made = found; joined = true })) l next all)
      (sym same)
      ((same_many test (λ found x. next_binding each found x) (record { made = found; joined = true })).back (y ∷ ys)
      next all
      (inl (
        ap is_some name,
        (round_same (record { made = found; joined = true }) y).back ys next all
            (given_of (module_name_of y) text y
            (λ called. next_one (λ got. joined_more (record { made = found; joined = true }) got) called) ys next all
            name h),
      )))
  round_of found false before a y text ys xs next all ands name (none, stops) split h =
      let same : xs ≡ a ∷ y ∷ ys = sym (ap (λ (l : List Lexeme). l ++ xs) none) ∙ split in
      subst (λ (l : List Lexeme). Phrase (bindings_from each (record { made = found; joined = false })) l next all)
      (sym same)
      ((same_many test (λ found x. next_binding each found x) (record { made = found; joined = false })).back
      (a ∷ y ∷ ys) next all
      (inl (
        ands,
        (round_same (record { made = found; joined = false }) a).back (y ∷ ys) next all
            (taken_of module_name_of named (λ called. next_one
            (λ got. joined_more (record { made = found; joined = false }) got) called)
            Grammar.refuse y text ys next all name h),
      )))

  binds_of : (parts : List (Tall A)) (wrap : Tall A → Tall (List A)) (called : Name) (first : Tall A)
      (ys zs : List Lexeme) (next : Option Lexeme) → Is called ys (head_or zs next) first
      → AreFurther Bind zs next parts → begins (is w.And) next ≡ false → begins stop next ≡ false
      → Phrase (next_one (λ got. record { made = wrap got.made; joined = got.joined }) called) (ys ++ zs) next
      (apart (mores (wrap first) parts))
  unfolding bindings_from
  binds_of [] wrap called first ys zs next found none no_and stops =
      let behind : head_or zs next ≡ next = ap (λ (l : List Lexeme). head_or l next) none in
      inl (
        apart first,
        ys,
        zs,
        refl,
        subst (λ (o : Option Lexeme). Phrase (each called) ys o (apart first)) (sym behind)
            ((reads called).last ys next first (subst (λ (o : Option Lexeme). Is called ys o first) behind found)
            no_and stops),
        subst (λ (l : List Lexeme). Phrase (bindings_from each (apart (wrap first))) l next (apart (wrap first)))
            (sym none)
            stop_here,
      )
    where
      stop_here : Phrase (bindings_from each (apart (wrap first))) [] next (apart (wrap first))
      stop_here =
          (same_many test (λ found x. next_binding each found x) (apart (wrap first))).back [] next (apart (wrap first))
          (no_and, (refl, refl))
  binds_of (part ∷ parts) wrap called first ys zs next found
      (a, us, vs, split, ands, (y, rest, text, written, name, so), further) no_and stops =
      by_one (binds_of parts (λ made. more (wrap first) made) (named y text) part rest vs next so further no_and stops)
      ((reads called).more ys a (Some y) first
      (subst (λ (o : Option Lexeme). Is called ys o first) (ap (λ (l : List Lexeme). head_or l next) whole) found) ands
      (name_no_word y text w.TypeWord name))
    where
      whole : zs ≡ a ∷ y ∷ (rest ++ vs)
      whole = split ∙ ap (λ (l : List Lexeme). a ∷ (l ++ vs)) written

      by_one : Phrase (next_one (λ got. record { made = more (wrap first) got.made; joined = got.joined })
          (named y text)) (rest ++ vs)
          next (apart (mores (wrap first) (part ∷ parts)))
          → Phrase (each called) ys (Some a) (apart first)
          ⊎ Phrase (each called) (ys ++ a ∷ []) (Some y) (record { made = first; joined = true })
          → Phrase (next_one (λ got. record { made = wrap got.made; joined = got.joined }) called) (ys ++ zs) next
          (apart (mores (wrap first) (part ∷ parts)))
      by_one h (inl p) =
          inl (
            apart first,
            ys,
            zs,
            refl,
            subst (λ (o : Option Lexeme). Phrase (each called) ys o (apart first))
                (ap (λ (l : List Lexeme). head_or l next) (sym whole)) p,
            round_of (wrap first) false [] a y text (rest ++ vs) zs next (apart (mores (wrap first) (part ∷ parts)))
                ands name (refl, search_stop) whole h,
          )
        where
          search_stop : begins stop (Some a) ≡ false
          search_stop = let ended = ((reads called).into ys (Some a) (apart first) p) in ended.1
      by_one h (inr p) =
          inl (
            record { made = first; joined = true },
            ys ++ a ∷ [],
            y ∷ (rest ++ vs),
            ap (λ (l : List Lexeme). ys ++ l) whole ∙ sym (append_assoc ys (a ∷ []) (y ∷ (rest ++ vs))),
            p,
            round_of (wrap first) true (a ∷ []) a y text (rest ++ vs) (y ∷ (rest ++ vs)) next
                (apart (mores (wrap first) (part ∷ parts))) ands name
                (a, refl, ands) refl h,
          )

  pub whole_of : (first : Tall A) (parts : List (Tall A)) (xs : List Lexeme) (next : Option Lexeme)
      → AreJoined Bind xs next (first ∷ parts) → begins (is w.And) next ≡ false → begins stop next ≡ false
      → Phrase (bindings each) xs next (mores (one first) parts)
  unfolding bindings
  whole_of first parts xs next (ys, zs, split, (y, rest, text, written, name, found), further) no_and stops =
      subst (λ (l : List Lexeme). Phrase (bindings each) l next (mores (one first) parts))
      (sym (split ∙ ap (λ (l : List Lexeme). l ++ zs) written))
      (taken_of module_name_of named
      (λ called. Grammar.bind (each called) (λ first. Grammar.bind (bindings_from each (joined_one first)) alone_of))
      Grammar.refuse y text (rest ++ zs) next (mores (one first) parts) name
      ((same_three (each (named y text)) (λ first. bindings_from each (joined_one first)) alone_of).to (rest ++ zs) next
      (mores (one first) parts)
      (inl (
        apart (mores (one first) parts),
        rest ++ zs,
        [],
        sym (append-nil (rest ++ zs)),
        binds_of parts (λ made. one made) (named y text) first rest zs next found further no_and stops,
        (refl, refl),
      ))))
