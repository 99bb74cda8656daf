-- What is read with heights under a limit is of the forms, and the other way round.
use Rattle.std.proofs.Common.{◌≡◌, ◌⊎◌, ℕ, zero, suc, ◌≤◌, List, [], ◌∷◌, ◌++◌, map, Option, Some, None, is_some, Bool, true, false, ◌||◌, inl, inr, refl, sym, ap, ap₂, subst, ◌∙◌, arith}
use Rattle.std.proofs.lemmas.Bool.{lt-ltb}
use Rattle.std.proofs.lemmas.List.{append_assoc, append-nil}
use Rattle.grammars.specs.Grammar.{Grammar, End, Phrase, head_or}
use Rattle.sml_lexer.specs.declared.lexeme.Lexeme.{Lexeme}
use Rattle.sml_trees.specs.declared.full_sig.FullSigExp.{FullSigExp}
use Rattle.sml_trees.specs.declared.full_sig.FullSigExp.TheVariants as s
use Rattle.sml_trees.specs.declared.full_sig.FullSpec.{FullSpec}
use Rattle.sml_trees.specs.declared.full_sig.FullWhere.{FullWhere}
use Rattle.sml_trees.specs.declared.full_ty.FullTy.{FullTy}
use Rattle.sml_trees.specs.declared.name.At.{At}
use Rattle.sml_trees.specs.declared.name.LongName.{LongName}
use Rattle.sml_trees.specs.declared.name.Name.{Name}
use Rattle.core_types.specs.Types.{ty}
use Rattle.phrase_reading.specs.Names.{either, begins_with_letter, tyvars, if_marked}
use Rattle.phrase_reading.specs.Sized.{one, more, part, over}
use Rattle.phrase_reading.specs.Words.{g, is, at, name_of, named, tycon_of, long_named, token, made, and_then}
use Rattle.phrase_reading.specs.declared.tall.Tall.{Tall}
use Rattle.sml_lexer.specs.declared.words.Word.TheVariants as w
use Rattle.signature_parser.specs.Joined.{if_letter, module_name_text, module_name_of, is_module_name}
use Rattle.signature_parser.specs.declared.joined.Joined.{Joined}
use Rattle.signature_parser.specs.SigLevels.{sig_level, sig_below}
use Rattle.signature_parser.specs.Signatures.{where_bind, where_type, sig_body, sig_name, sig_atom, sig_of}
use Rattle.head_laws.proofs.Limits.{ty_low}
use Rattle.head_laws.proofs.Algebra.{Took, Began, began, same_token, taken_in, taken_of, either_in, either_of, never_refused}
use Rattle.head_laws.proofs.Lexemes.{then_some}
use Rattle.level_laws.proofs.SigLevels.{sig_level_keeps}
use Rattle.joined_laws.specs.Forms.{AreFurther, AreJoined, IsModuleName, IsWheretype, IsSig, IsSigid, IsSigexp}
use Rattle.joined_laws.proofs.Parts.{mores}
use Rattle.joined_laws.proofs.Bindings.{name_no_word}
use Rattle.joined_laws.proofs.Types.{One, All}
use Rattle.joined_laws.proofs.Signatures.{where_over, Atom, Wheres, Sig}
use Rattle.joined_laws.proofs.SigPassing.{where_type_passes, atom_passes, sig_atom_some, sig_levels_pass}

pub either_no : {C : Type 0} (test : Bool) (go or : g C) (xs : List Lexeme) (next : Option Lexeme) (c : C) → test ≡
    false
    → Phrase or xs next c → Phrase (either test go or) xs next c
either_no true go or xs next c is h = absurd (cc)
either_no false go or xs next c is h = h

pub some_or : (a b : Bool) → b ≡ true → (a || b) ≡ true
some_or true b h = refl
some_or false b h = h

abbrev pub tree_of : {A : Type 0} → Tall A → A
tree_of made = made.tree

-- ---- lists of parts

pub more_trees : {A : Type 0} (found : Tall (List A)) (parts : List (Tall A))
    → (mores found parts).tree ≡ found.tree ++ map tree_of parts
more_trees found [] = sym (append-nil found.tree)
more_trees found (part ∷ parts) =
    more_trees (more found part) parts ∙ append_assoc found.tree (part.tree ∷ []) (map tree_of parts)

pub more_heights : {A : Type 0} (found : Tall (List A)) (parts : List (Tall A)) → found.height ≤
    (mores found parts).height
more_heights found [] = omega arith
more_heights found (part ∷ parts) = let le = more_heights (more found part) parts in omega arith

-- each part is as high
abbrev pub AllLow : {A : Type 0} → ℕ → List (Tall A) → Type 0
AllLow most [] = Unit {0}
AllLow most (part ∷ parts) = (part.height ≤ most) × AllLow most parts

pub more_low : {A : Type 0} (most : ℕ) (found : Tall (List A)) (parts : List (Tall A)) → (mores found parts).height ≤
    most
    → AllLow most parts
more_low most found [] le = tt
more_low most found (part ∷ parts) le =
    let grows = more_heights (more found part) parts in (omega arith, more_low most (more found part) parts le)

more_under : {A : Type 0} (most : ℕ) (found : Tall (List A)) (parts : List (Tall A)) → found.height ≤ most
    → AllLow most parts → (mores found parts).height ≤ most
more_under most found [] low all = low
more_under most found (part ∷ parts) low all = more_under most (more found part) parts (omega (arith, all.0)) all.1

-- ---- one type

abbrev where_made : List Name → FullTy → LongName → At → FullWhere
where_made vars ty long place = record { tyvars = vars; long = long; ty = ty; at = place }

-- behind its `=`, and behind its type variables
abbrev type_behind : ℕ → List Name → At → LongName → g (Tall FullWhere)
type_behind m vars place long =
    Grammar.bind (ty m) (λ inner. Grammar.pure (part (λ (ty : FullTy). where_made vars ty long place) inner))

abbrev equals_behind : ℕ → List Name → At → LongName → g (Tall FullWhere)
equals_behind m vars place long = Grammar.bind (token w.Equals) (λ _. type_behind m vars place long)

wheretype_in : (m : ℕ) (xs : List Lexeme) (next : Option Lexeme) (found : Tall FullWhere)
    → Phrase (where_type (ty m)) xs next found → IsWheretype m xs next found.tree
unfolding where_type if_marked where_bind
wheretype_in m xs next found h = by_first (began (is w.TypeWord) (where_bind (ty m)) xs next found h)
  where
    by_type : (first : Lexeme) (us : List Lexeme) (vars : List Name) (called equals : Lexeme) (parts : List (List ℕ))
        (vs : List Lexeme) → xs ≡ first ∷ (us ++ called ∷ equals ∷ vs) → is w.TypeWord first ≡ true
        → Phrase tyvars us (Some called) vars → tycon_of called ≡ Some parts → is w.Equals equals ≡ true
        → Phrase (type_behind m vars (at first) (long_named called parts)) vs next found
        → IsWheretype m xs next found.tree
    by_type first us vars called equals parts vs split types p con equal (inl (inner, front, bs, parted, q, r)) =
        let ends : End.whole found ≡ End.whole (part
        (λ (ty : FullTy). where_made vars ty (long_named called parts) (at first)) inner) = r.1 in
        let same : part (λ (ty : FullTy). where_made vars ty (long_named called parts) (at first)) inner ≡ found = cc in
        let all : front ≡ vs = sym (parted ∙ ap (λ (l : List Lexeme). front ++ l) r.0 ∙ append-nil front) in
        let behind : head_or bs next ≡ next = ap (λ (l : List Lexeme). head_or l next) r.0 in
        subst (λ (found : Tall FullWhere). IsWheretype m xs next found.tree) same (
          first,
          us,
          called,
          equals,
          vs,
          split,
          types,
          p,
          (con, refl),
          equal,
          (
            inner.height,
            subst (λ (l : List Lexeme). Phrase (ty m) l next inner) all
                (subst (λ (o : Option Lexeme). Phrase (ty m) front o inner) behind q),
          ),
          refl,
        )
    by_type first us vars called equals parts vs split types p con equal (inr h) = absurd h

    by_equals : (first : Lexeme) (us : List Lexeme) (vars : List Name) (zs : List Lexeme) → xs ≡ first ∷ (us ++ zs)
        → is w.TypeWord first ≡ true → Phrase tyvars us (head_or zs next) vars
        → Took tycon_of zs (λ x parts rest. Phrase (equals_behind m vars (at first) (long_named x parts)) rest next
        found)
        → IsWheretype m xs next found.tree
    by_equals first us vars zs split types p it =
        let long = long_named it.first it.found in
        let equals = began (is w.Equals) (λ _. type_behind m vars (at first) long) it.rest next found
        ((same_token w.Equals (type_behind m vars (at first) long)).to it.rest next found it.then_so) in
        let whole : zs ≡ it.first ∷ equals.first ∷ equals.rest =
        it.written ∙ ap (λ (l : List Lexeme). it.first ∷ l) equals.written in
        by_type first us vars it.first equals.first it.found equals.rest
        (split ∙ ap (λ (l : List Lexeme). first ∷ (us ++ l)) whole)
        types (subst (λ (o : Option Lexeme). Phrase tyvars us o vars) (ap (λ (l : List Lexeme). head_or l next) whole)
        p)
        it.is equals.is equals.then_so

    by_vars : (first : Lexeme) (rest : List Lexeme) → xs ≡ first ∷ rest → is w.TypeWord first ≡ true
        → Phrase (where_bind (ty m) first) rest next found → IsWheretype m xs next found.tree
    by_vars first rest written types (inl (vars, us, zs, split, p, q)) =
        by_equals first us vars zs (written ∙ ap (λ (l : List Lexeme). first ∷ l) split) types p
        (taken_in tycon_of long_named (equals_behind m vars (at first)) Grammar.refuse zs next found q)
    by_vars first rest written types (inr h) = absurd h

    by_first : Began (is w.TypeWord) xs (λ x rest. Phrase (where_bind (ty m) x) rest next found)
        → IsWheretype m xs next found.tree
    by_first it = by_vars it.first it.rest it.written it.is it.then_so

wheretype_of : (m : ℕ) (xs : List Lexeme) (next : Option Lexeme) (found : FullWhere) → IsWheretype m xs next found
    → (height : ℕ) × (height ≤ m) × Phrase (where_type (ty m)) xs next (record { tree = found; height = height })
unfolding where_type if_marked where_bind
wheretype_of m xs next found (first, us, called, equals, vs, split, types, p, con, equal, (height, q), place) =
    let inner : Tall FullTy = record { tree = found.ty; height = height } in
    let long : LongName = long_named called found.long.parts in
    let made : Tall FullWhere = record { tree = where_made found.tyvars found.ty long (at first); height = height } in
    let same : where_made found.tyvars found.ty long (at first) ≡ found =
    sym (ap₂ (λ (long : LongName) (place : At). where_made found.tyvars found.ty long place) con.1 place) in
    let text : first ∷ (us ++ called ∷ equals ∷ vs) ≡ xs = sym split in (
      height,
      (ty_low m).gives vs next inner q,
      subst (λ (l : List Lexeme). Phrase (where_type (ty m)) l next (record { tree = found; height = height })) text
          (subst (λ (found : FullWhere). Phrase (where_type (ty m)) (first ∷ (us ++ called ∷ equals ∷ vs)) next
          (record { tree = found; height = height })) same
          (inl (
            types,
            inl (
              found.tyvars,
              us,
              called ∷ equals ∷ vs,
              refl,
              p,
              taken_of tycon_of long_named (equals_behind m found.tyvars (at first)) Grammar.refuse called
                  found.long.parts (equals ∷ vs) next made con.0
                  ((same_token w.Equals (type_behind m found.tyvars (at first) long)).back (equals ∷ vs) next made
                  (inl (equal, inl (inner, vs, [], sym (append-nil vs), q, (refl, refl))))),
            ),
          ))),
    )

-- under a lower limit
wheretype_down : (n k : ℕ) (xs : List Lexeme) (next : Option Lexeme) (made : Tall FullWhere) → made.height ≤ k
    → One (ty n) xs next made → IsWheretype k xs next made.tree
wheretype_down n k xs next made low h =
    wheretype_in k xs next made ((where_type_passes n k).pass xs next made (inr low) h)

-- .. and under a higher one
wheretype_up : (n k : ℕ) (xs : List Lexeme) (next : Option Lexeme) (found : FullWhere) → k ≤ n
    → IsWheretype k xs next found
    → (made : Tall FullWhere) × (made.tree ≡ found) × (made.height ≤ k) × One (ty n) xs next made
wheretype_up n k xs next found le h =
    let it = wheretype_of k xs next found h in
    let made : Tall FullWhere = record { tree = found; height = it.0 } in
    (made, refl, it.1, (where_type_passes k n).pass xs next made (inl le) it.2)

-- ---- types behind `where`

further_down : (n k : ℕ) (xs : List Lexeme) (next : Option Lexeme) (parts : List (Tall FullWhere)) → AllLow k parts
    → AreFurther (One (ty n)) xs next parts → AreFurther (IsWheretype k) xs next (map tree_of parts)
further_down n k xs next [] low h = h
further_down n k xs next (part ∷ parts) low (x, ys, zs, split, ands, p, rest) = (
  x,
  ys,
  zs,
  split,
  ands,
  wheretype_down n k ys (head_or zs next) part low.0 p,
  further_down n k zs next parts low.1
      rest,
)

further_up : (n k : ℕ) (xs : List Lexeme) (next : Option Lexeme) (founds : List FullWhere) → k ≤ n
    → AreFurther (IsWheretype k) xs next founds
    → (parts : List (Tall FullWhere)) × (map tree_of parts ≡ founds) × AllLow k parts × AreFurther (One (ty n)) xs next
    parts
further_up n k xs next [] le h = ([], refl, tt, h)
further_up n k xs next (found ∷ founds) le (x, ys, zs, split, ands, p, rest) =
    let first = wheretype_up n k ys (head_or zs next) found le p in
    let others = further_up n k zs next founds le rest in
    let same : map tree_of (first.0 ∷ others.0) ≡ found ∷ founds =
    ap₂ (λ (a : FullWhere) (b : List FullWhere). a ∷ b) first.1 others.1 in
    (first.0 ∷ others.0, same, (first.2, others.2), (x, ys, zs, split, ands, first.3, others.3))

types_down : (n k : ℕ) (xs : List Lexeme) (next : Option Lexeme) (types : Tall (List FullWhere)) → types.height ≤ k
    → All (ty n) xs next types → AreJoined (IsWheretype k) xs next types.tree
types_down n k xs next types low (first, parts, (ys, zs, split, p, rest), same) =
    let under : (mores (one first) parts).height ≤ k = subst (λ (types : Tall (List FullWhere)). types.height ≤ k) same
    low in
    let grows = more_heights (one first) parts in
    let trees : first.tree ∷ map tree_of parts ≡ types.tree =
    sym (ap (λ (types : Tall (List FullWhere)). types.tree) same ∙ more_trees (one first) parts) in
    subst (λ (trees : List FullWhere). AreJoined (IsWheretype k) xs next trees) trees (
      ys,
      zs,
      split,
      wheretype_down n k ys (head_or zs next) first (omega arith) p,
      further_down n k zs next parts (more_low k (one first) parts under) rest,
    )

types_up : (n k : ℕ) (xs : List Lexeme) (next : Option Lexeme) (founds : List FullWhere) → k ≤ n
    → AreJoined (IsWheretype k) xs next founds
    → (types : Tall (List FullWhere)) × (types.tree ≡ founds) × (types.height ≤ k) × All (ty n) xs next types
types_up n k xs next [] le h = absurd h
types_up n k xs next (found ∷ founds) le (ys, zs, split, p, rest) =
    let first = wheretype_up n k ys (head_or zs next) found le p in
    let others = further_up n k zs next founds le rest in
    let same : first.0.tree ∷ map tree_of others.0 ≡ found ∷ founds =
    ap₂ (λ (a : FullWhere) (b : List FullWhere). a ∷ b) first.1 others.1 in (
      mores (one first.0) others.0,
      more_trees (one first.0) others.0 ∙ same,
      more_under k (one first.0) others.0 first.2 others.2,
      (first.0, others.0, (ys, zs, split, first.3, others.3), refl),
    )

-- ---- names

letter_of : (b : Bool) (text found : List ℕ) → if_letter b text ≡ Some found → (b ≡ true) × (text ≡ found)
letter_of true text found h = (refl, cc)
letter_of false text found h = absurd (cc)

pub module_name_is : (x : Lexeme) (text : List ℕ) → module_name_of x ≡ Some text → IsModuleName x (named x text)
module_name_is x text h =
    let found = then_some module_name_text (name_of x) text h in
    let letter = letter_of (begins_with_letter found.0) found.0 text found.2 in
    (found.1 ∙ ap Some letter.1, ap begins_with_letter (sym letter.1) ∙ letter.0, refl)

pub module_name_has : (x : Lexeme) (called : Name) → IsModuleName x called → module_name_of x ≡ Some called.text
module_name_has x called (name, letter, same) =
    ap (λ (found : Option (List ℕ)). and_then module_name_text found) name
    ∙ ap (λ (b : Bool). if_letter b called.text) letter

-- ---- signatures without types

atom_in : (m : ℕ) (xs : List Lexeme) (next : Option Lexeme) (made_of : Tall FullSigExp) → Atom m xs next made_of
    → IsSig m xs made_of.tree ⊎ IsSigid xs made_of.tree
unfolding sig_body
atom_in m xs next made_of (x, ys, written, starts, p) =
    by_kind (either_in (is w.Sig x) (sig_body (sig_level m) (at x)) (made (sig_name x) (module_name_of x)) ys next
    made_of p)
  where
    by_end : is w.Sig x ≡ true → (specs : Tall (List FullSpec)) (us zs : List Lexeme) → ys ≡ us ++ zs
        → Phrase (sig_level m).specs us (head_or zs next) specs
        → Phrase (Grammar.bind (token w.End) (λ _. Grammar.pure
        (over (λ (specs : List FullSpec). s.Sig specs (at x)) specs))) zs next made_of
        → IsSig m xs made_of.tree
    by_end opens specs us zs split q h =
        let closing = began (is w.End) (λ _. Grammar.pure (over (λ (specs : List FullSpec). s.Sig specs (at x)) specs))
        zs next made_of
        ((same_token w.End (Grammar.pure (over (λ (specs : List FullSpec). s.Sig specs (at x)) specs))).to zs next
        made_of h) in
        let ends : End.whole made_of ≡ End.whole (over (λ (specs : List FullSpec). s.Sig specs (at x)) specs) =
        closing.then_so.1 in
        let same : over (λ (specs : List FullSpec). s.Sig specs (at x)) specs ≡ made_of = cc in
        let whole : zs ≡ closing.first ∷ [] = closing.written ∙ ap (λ (l : List Lexeme). closing.first ∷ l)
        closing.then_so.0 in
        subst (λ (it : Tall FullSigExp). IsSig m xs it.tree) same (
          x,
          us,
          closing.first,
          specs.tree,
          written ∙ ap (λ (l : List Lexeme). x ∷ l) (split ∙ ap (λ (l : List Lexeme). us ++ l) whole),
          opens,
          (
            specs.height,
            subst (λ (o : Option Lexeme). Phrase (sig_level m).specs us o specs)
                (ap (λ (l : List Lexeme). head_or l next) whole) q,
          ),
          closing.is,
          refl,
        )

    by_body : is w.Sig x ≡ true → Phrase (sig_body (sig_level m) (at x)) ys next made_of → IsSig m xs made_of.tree
    by_body opens (inl (specs, us, zs, split, q, h)) = by_end opens specs us zs split q h
    by_body opens (inr h) = absurd h

    by_name : (found : Option (List ℕ)) → module_name_of x ≡ found → Phrase (made (sig_name x) found) ys next made_of
        → IsSigid xs made_of.tree
    by_name None name h = never_refused ys next made_of h
    by_name (Some text) name h =
        let ends : End.whole made_of ≡ End.whole (sig_name x text) = h.1 in
        let same : sig_name x text ≡ made_of = cc in
        subst (λ (it : Tall FullSigExp). IsSigid xs it.tree) same
        (x, named x text, written ∙ ap (λ (l : List Lexeme). x ∷ l) h.0, module_name_is x text name, refl)

    by_kind : ((is w.Sig x ≡ true) × Phrase (sig_body (sig_level m) (at x)) ys next made_of)
        ⊎ ((is w.Sig x ≡ false) × Phrase (made (sig_name x) (module_name_of x)) ys next made_of)
        → IsSig m xs made_of.tree ⊎ IsSigid xs made_of.tree
    by_kind (inl h) = inl (by_body h.0 h.1)
    by_kind (inr h) = inr (by_name (module_name_of x) refl h.1)

atom_some : (m : ℕ) (xs : List Lexeme) (next : Option Lexeme) (found : Tall FullSigExp) → Atom m xs next found
    → 1 ≤ found.height
atom_some m xs next found (x, ys, written, starts, p) = (sig_atom_some (sig_level m) x).gives ys next found p

-- under a lower limit
atom_down : (n k : ℕ) (xs : List Lexeme) (next : Option Lexeme) (found : Tall FullSigExp) → found.height ≤ suc k
    → Atom n xs next found → IsSig k xs found.tree ⊎ IsSigid xs found.tree
atom_down n k xs next found low (x, ys, written, starts, p) =
    let level = sig_levels_pass n k in
    atom_in k xs next found (
      x,
      ys,
      written,
      starts,
      (atom_passes n k (sig_level n) (sig_level k) level.sig level.specs x).pass ys next found (inr low) p,
    )

-- .. and under a higher one
sig_up : (n k : ℕ) (xs : List Lexeme) (next : Option Lexeme) (sig : FullSigExp) → k ≤ n → IsSig k xs sig
    → (found : Tall FullSigExp) × (found.tree ≡ sig) × (found.height ≤ suc k) × Atom n xs next found
unfolding sig_body
sig_up n k xs next sig le (opening, ys, closing, specs, split, opens, (height, p), closes, same) =
    let inner : Tall (List FullSpec) = record { tree = specs; height = height } in
    let low = ((sig_level_keeps k).specs.gives ys (Some closing) inner p).low in
    let passed = (sig_levels_pass k n).specs.pass ys (Some closing) inner (inl le) p in (
      over (λ (specs : List FullSpec). s.Sig specs (at opening)) inner,
      sym same,
      omega arith,
      (
        opening,
        ys ++ closing ∷ [],
        split,
        either_true (is w.Sig opening) (is_module_name opening) opens,
        body passed,
      ),
    )
  where
    either_true : (a b : Bool) → a ≡ true → (a || b) ≡ true
    either_true true b h = refl
    either_true false b h = absurd (cc)

    body : Phrase (sig_level n).specs ys (Some closing) (record { tree = specs; height = height })
        → Phrase (sig_atom (sig_level n) opening) (ys ++ closing ∷ []) next
        (over (λ (specs : List FullSpec). s.Sig specs (at opening)) (record { tree = specs; height = height }))
    body passed =
        let inner : Tall (List FullSpec) = record { tree = specs; height = height } in
        let all : Tall FullSigExp = over (λ (specs : List FullSpec). s.Sig specs (at opening)) inner in
        either_of (is w.Sig opening) (sig_body (sig_level n) (at opening))
        (made (sig_name opening) (module_name_of opening))
        (ys ++ closing ∷ []) next all opens
        (inl (
          inner,
          ys,
          closing ∷ [],
          refl,
          passed,
          (same_token w.End (Grammar.pure all)).back (closing ∷ []) next all (inl (closes, (refl, refl))),
        ))

sigid_up : (n : ℕ) (xs : List Lexeme) (next : Option Lexeme) (sig : FullSigExp) → IsSigid xs sig
    → (found : Tall FullSigExp) × (found.tree ≡ sig) × (found.height ≤ 1) × Atom n xs next found
sigid_up n xs next sig (x, called, split, name, same) =
    let text = module_name_has x called name in
    let named_so : called ≡ named x called.text = name.2 in
    let tree : s.Named (named x called.text) (at x) ≡ sig = sym
    (same ∙ ap (λ (called : Name). s.Named called (at x)) named_so) in (
      sig_name x called.text,
      tree,
      omega arith,
      (x, [], split, some_or (is w.Sig x) (is_module_name x) (ap is_some text), body text),
    )
  where
    body : module_name_of x ≡ Some called.text
        → Phrase (sig_atom (sig_level n) x) [] next (sig_name x called.text)
    body text =
        either_no (is w.Sig x) (sig_body (sig_level n) (at x)) (made (sig_name x) (module_name_of x)) [] next
        (sig_name x called.text)
        (name_no_word x called.text w.Sig text)
        (subst (λ (found : Option (List ℕ)). Phrase (made (sig_name x) found) [] next (sig_name x called.text))
        (sym text)
        (refl, refl))

-- ---- signatures with types

pub sig_down : (n j k : ℕ) (xs : List Lexeme) (next : Option Lexeme) (found : Tall FullSigExp) → found.height ≤ k
    → Wheres n j xs next found → IsSigexp k xs next found.tree
sig_down n zero zero xs next found low it = let some = atom_some n xs next found it in absurd (omega arith)
sig_down n zero (suc k) xs next found low it = by_form (atom_down n k xs next found low it)
  where
    by_form : IsSig k xs found.tree ⊎ IsSigid xs found.tree → IsSigexp (suc k) xs next found.tree
    by_form (inl h) = inl h
    by_form (inr h) = inr (inl h)
sig_down n (suc j) zero xs next found low (ys, x, zs, left, types, place, split, it, goes, are, room, begin, same) =
    let under : (where_over place left types).height ≤ 0 = subst (λ (found : Tall FullSigExp). found.height ≤ 0) same
    low in
    absurd (omega arith)
sig_down n (suc j) (suc k) xs next found low (ys, x, zs, left, types, place, split, it, goes, are, room, begin, same) =
    let under : (where_over place left types).height ≤ suc k = subst
    (λ (found : Tall FullSigExp). found.height ≤ suc k) same low in
    let first : left.height ≤ k = omega arith in
    let second : types.height ≤ k = omega arith in
    inr (inr (
      ys,
      x,
      zs,
      left.tree,
      types.tree,
      place,
      split,
      sig_down n j k ys (Some x) left first it,
      goes,
      types_down n k zs next types second are,
      begin,
      ap (λ (found : Tall FullSigExp). found.tree) same,
    ))

pub sigexp_up : (n k : ℕ) (xs : List Lexeme) (next : Option Lexeme) (sig : FullSigExp) → k ≤ suc n → IsSigexp k xs next
    sig
    → (found : Tall FullSigExp) × (found.tree ≡ sig) × (found.height ≤ k) × Sig n xs next found
sigexp_up n zero xs next sig le h = absurd h
sigexp_up n (suc k) xs next sig le (inl h) =
    let it = sig_up n k xs next sig (omega arith) h in (it.0, it.1, it.2, (zero, it.3))
sigexp_up n (suc k) xs next sig le (inr (inl h)) =
    let it = sigid_up n xs next sig h in (it.0, it.1, omega (arith, it.2), (zero, it.3))
sigexp_up n (suc k) xs next sig le (inr (inr (ys, x, zs, inner, types, place, split, h, goes, are, begin, same))) =
    let left = sigexp_up n k ys (Some x) inner (omega arith) h in
    let founds = types_up n k zs next types (omega arith) are in
    let tree : s.Where left.0.tree founds.0.tree place ≡ sig =
    ap (λ (sig : FullSigExp). s.Where sig founds.0.tree place) left.1
    ∙ ap (λ (types : List FullWhere). s.Where inner types place) founds.1 ∙ sym same in (
      where_over place left.0 founds.0,
      tree,
      omega (arith, left.2, founds.2),
      (
        suc left.3.0,
        (
          ys,
          x,
          zs,
          left.0,
          founds.0,
          place,
          split,
          left.3.1,
          goes,
          founds.3,
          lt-ltb left.0.height (suc n) (omega (arith, left.2)),
          begin,
          refl,
        ),
      ),
    )

-- what is read under a limit is no higher
pub sig_low : (n : ℕ) (xs : List Lexeme) (next : Option Lexeme) (found : Joined FullSigExp)
    → Phrase (sig_of (suc n) (sig_level n)) xs next found → found.made.height ≤ suc n
unfolding sig_below
sig_low n xs next found h = ((sig_level_keeps (suc n)).sig.gives xs next found h).low
