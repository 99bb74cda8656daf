-- Lists of names, name by name.
use Rattle.std.proofs.Common.{◌≡◌, ℕ, zero, suc, ◌+◌, ◌<◌, ◌≤◌, refl, sym, ap, ap₂, ◌∙◌, subst, List, [], ◌∷◌, ◌++◌, length, take, drop, get_or, Some, slice_get, Bool, true, false, ◌&&◌, arith, cond}
use Rattle.std.specs.Prelude.{filter, ltb, not}
use Rattle.std.specs.Cmp.Lexicographic.{nat_list_eq_equiv, same_text as same_bytes}
use Rattle.std.proofs.lemmas.Bool.{lt-ltb, ltb-true}
use Rattle.std.proofs.lemmas.List.{append_assoc, map-append, length-take-le}
use Rattle.std.proofs.Math.Seq.{take-suc}
use Rattle.semantic_objects.specs.declared.name.Owner.TheVariants as owner
use Rattle.semantic_objects.specs.declared.name.TyName.{TyName}
use Rattle.semantic_objects.specs.declared.entry.TypeFn.{TypeFn}
use Rattle.semantic_objects.specs.Symbols.{same_text}
use Rattle.semantic_objects.proofs.Same.{text_is, text_same}
use Rattle.name_trails.specs.Trails.{same}
use Rattle.static_semantics.specs.DatatypeInference.{own_type, same_as_home}
use Rattle.module_semantics.specs.SignatureNames.{bound_names, rows_between}
use Rattle.type_walks.specs.declared.replacing.Replace.{Replace}
use Rattle.type_walks.specs.Replaced.{rows_of}
use Rattle.unit_semantics.specs.UnitInference.{is_since}

taken : {A : Type 0} (xs : List A) (i : ℕ) (x : A) → i < length xs → x ≡ get_or xs i x
    → take (i + 1) xs ≡ take i xs ++ x ∷ []
taken {A} xs i x h e =
    let next : i + 1 ≡ suc i = omega arith in
    ap (λ k. take k xs) next ∙ take-suc xs i x h ∙ ap (λ (y : A). take i xs ++ y ∷ []) (sym e)

-- ---- names since a number

pub texts_alike : (a b : List ℕ) → same_text a b ≡ same b a
texts_alike a b = by_tests (same_text a b) (same b a) refl refl
  where
    by_tests : (c d : Bool) → same_text a b ≡ c → same b a ≡ d → c ≡ d
    by_tests true true e f = refl
    by_tests false false e f = refl
    by_tests true false e f =
        let k : same a a ≡ true = nat_list_eq_equiv.refl a in
        let l : same a a ≡ false = subst (λ z. same z a ≡ false) (sym (text_is a b e)) f in
        absurd (cc)
    by_tests false true e f =
        let k : same_text a a ≡ true = text_same a in
        let l : same_text a a ≡ false = subst (λ z. same_text a z ≡ false) (same_bytes b a (sym f)) e in
        absurd (cc)

pub other_owner : (home : List ℕ) (number : ℕ) (name : TyName) (own : Bool) → own ≡ same_as_home home name.owner
    → own ≡ false → false ≡ is_since home number name
other_owner home number name own h k = sym (ap (λ b. b && not (ltb name.number number)) (sym h ∙ k))

pub number_before : (home : List ℕ) (number : ℕ) (name : TyName) (own : Bool) → own ≡ same_as_home home name.owner
    → own ≡ true → name.number < number → false ≡ is_since home number name
number_before home number name own h k l =
    sym (ap (λ b. b && not (ltb name.number number)) (sym h ∙ k)
    ∙ ap not (lt-ltb name.number number l))

pub number_from : (home : List ℕ) (number : ℕ) (name : TyName) (own : Bool) → own ≡ same_as_home home name.owner
    → own ≡ true → number ≤ name.number → true ≡ is_since home number name
number_from home number name own h k l =
    sym (ap (λ b. b && not (ltb name.number number)) (sym h ∙ k)
    ∙ ap not (not_below number name.number l))
  where
    not_below : (m n : ℕ) → m ≤ n → ltb n m ≡ false
    not_below m n i = by_test (ltb n m) refl
      where
        by_test : (b : Bool) → ltb n m ≡ b → b ≡ false
        by_test true e = let j : n < m = ltb-true n m e in absurd (omega (arith, i, j))
        by_test false e = refl

pub kept_one : (home : List ℕ) (number : ℕ) (name copy : TyName) (names new : List TyName) (b : Bool)
    → b ≡ is_since home number name → b ≡ true → copy ≡ name → new ≡ names ++ copy ∷ []
    → new ≡ names ++ filter (is_since home number) (name ∷ [])
kept_one home number name copy names new b e k f h =
    h ∙ ap (λ (x : TyName). names ++ x ∷ []) f
    ∙ sym (ap (λ c. names ++ cond c (name ∷ []) []) (sym e ∙ k))

pub kept_none : (home : List ℕ) (number : ℕ) (name : TyName) (names : List TyName) (b : Bool)
    → b ≡ is_since home number name → b ≡ false → names ≡ names ++ filter (is_since home number) (name ∷ [])
kept_none home number name names b e k =
    sym (nothing names) ∙ sym (ap (λ c. names ++ cond c (name ∷ []) []) (sym e ∙ k))
  where
    nothing : (xs : List TyName) → xs ++ [] ≡ xs
    nothing [] = refl
    nothing (x ∷ xs) = ap (λ z. x ∷ z) (nothing xs)

filter_append : (p : TyName → Bool) (xs ys : List TyName) → filter p (xs ++ ys) ≡ filter p xs ++ filter p ys
filter_append p [] ys = refl
filter_append p (x ∷ xs) ys = by_test (p x) (filter_append p xs ys)
  where
    by_test : (b : Bool) → filter p (xs ++ ys) ≡ filter p xs ++ filter p ys
        → cond b (x ∷ filter p (xs ++ ys)) (filter p (xs ++ ys)) ≡ cond b (x ∷ filter p xs) (filter p xs) ++ filter p ys
    by_test true h = ap (λ z. x ∷ z) h
    by_test false h = h

pub filter_next : (p : TyName → Bool) (all items : List TyName) (i : ℕ) (name : TyName) (names new : List TyName)
    → items ≡ all → i < length items → name ≡ get_or items i name → names ≡ filter p (take i all)
    → new ≡ names ++ filter p (name ∷ []) → new ≡ filter p (take (i + 1) all)
filter_next p all items i name names new same h e n k =
    let l : i < length all = subst (λ (xs : List TyName). i < length xs) same h in
    let f : name ≡ get_or all i name = e ∙ ap (λ (xs : List TyName). get_or xs i name) same in
    k ∙ ap (λ z. z ++ filter p (name ∷ [])) n
    ∙ sym (ap (filter p) (taken all i name l f) ∙ filter_append p (take i all) (name ∷ []))

pub filter_done : (p : TyName → Bool) (all items : List TyName) (i : ℕ) (names : List TyName) → items ≡ all
    → length items ≤ i → names ≡ filter p (take i all) → names ≡ filter p all
filter_done p all items i names same h n =
    n ∙ ap (filter p) (all_taken i all (subst (λ (xs : List TyName). length xs ≤ i) same h))
  where
    all_taken : (i : ℕ) (xs : List TyName) → length xs ≤ i → take i xs ≡ xs
    all_taken zero [] h = refl
    all_taken zero (x ∷ xs) h = absurd (omega (arith, h))
    all_taken (suc i) [] h = refl
    all_taken (suc i) (x ∷ xs) h = ap (λ z. x ∷ z) (all_taken i xs (omega (arith, h)))

-- ---- bound names

abbrev bound_as : ℕ → TyName → TyName
bound_as number name = record { owner = owner.Bound; number = number; arity = name.arity; eq = name.eq }

bound_last : (first : ℕ) (xs : List TyName) (x : TyName) (n : ℕ) → n ≡ first + length xs
    → bound_names first (xs ++ x ∷ []) ≡ bound_names first xs ++ bound_as n x ∷ []
bound_last first [] x n e = ap (λ m. bound_as m x ∷ []) (let k : first ≡ n = omega (arith, e) in k)
bound_last first (y ∷ ys) x n e = ap (λ z. bound_as first y ∷ z) (bound_last (suc first) ys x n (omega (arith, e)))

length_bound : (first : ℕ) (xs : List TyName) → length (bound_names first xs) ≡ length xs
length_bound first [] = refl
length_bound first (x ∷ xs) = ap suc (length_bound (suc first) xs)

pub bound_next : (first i : ℕ) (olds : List TyName) (old : TyName) (names new : List TyName) (number count : ℕ)
    → i < length olds → old ≡ get_or olds i old → names ≡ bound_names first (take i olds) → count ≡ length names
    → number ≡ first + count → new ≡ names ++ bound_as number old ∷ [] → new ≡ bound_names first (take (i + 1) olds)
bound_next first i olds old names new number count h e n c m k =
    let long : length (take i olds) ≡ i = length-take-le i olds (omega (arith, h)) in
    let at : count ≡ i = c ∙ ap length n ∙ length_bound first (take i olds) ∙ long in
    let l : number ≡ first + length (take i olds) = omega (arith, at, m, long) in
    k ∙ ap (λ z. z ++ bound_as number old ∷ []) n
    ∙ sym (ap (bound_names first) (taken olds i old h e) ∙ bound_last first (take i olds) old number l)

-- ---- rows

dropped : {A : Type 0} (i : ℕ) (xs : List A) (x : A) → slice_get xs i ≡ Some x → drop i xs ≡ x ∷ drop (suc i) xs
dropped i [] x e = no_get i x e
  where
    no_get : {A : Type 0} {P : Type 0} (i : ℕ) (x : A) → slice_get [] i ≡ Some x → P
    no_get zero x e = absurd (cc)
    no_get (suc i) x e = absurd (cc)
dropped {A} zero (y ∷ ys) x e = ap (λ (z : A). z ∷ ys) (some_is y x e)
  where
    some_is : (a b : A) → Some a ≡ Some b → a ≡ b
    some_is a b h = cc
dropped (suc i) (y ∷ ys) x e = dropped i ys x e

dropped_next : {A : Type 0} (i : ℕ) (xs : List A) (x : A) → slice_get xs i ≡ Some x → drop i xs ≡ x ∷ drop (i + 1) xs
dropped_next i xs x e = dropped i xs x e ∙ ap (λ n. x ∷ drop n xs) (let s : suc i ≡ i + 1 = omega (arith) in s)

past : {A : Type 0} (i : ℕ) (xs : List A) → length xs ≤ i → drop i xs ≡ []
past zero [] h = refl
past zero (y ∷ ys) h = absurd (omega (arith, h))
past (suc i) [] h = refl
past (suc i) (y ∷ ys) h = past i ys (omega (arith, h))

dropped_after : {A : Type 0} (i : ℕ) (xs : List A) → drop i xs ≡ [] → drop (suc i) xs ≡ []
dropped_after zero [] e = refl
dropped_after (suc i) [] e = refl
dropped_after zero (y ∷ ys) e = absurd (cc)
dropped_after (suc i) (y ∷ ys) e = dropped_after i ys e

none_next : {A : Type 0} (i : ℕ) (xs : List A) → drop i xs ≡ [] → drop (i + 1) xs ≡ []
none_next i xs e = ap (λ n. drop n xs) (let s : i + 1 ≡ suc i = omega (arith) in s) ∙ dropped_after i xs e

no_rows : (olds : List TyName) → rows_between olds [] ≡ []
no_rows [] = refl
no_rows (x ∷ xs) = refl

abbrev row_for : TyName → TypeFn → TyName × TypeFn
row_for name by = (name, by)

pub row_added : (i : ℕ) (olds news : List TyName) (old new copy : TyName) (by : TypeFn) (list more : List Replace)
    → slice_get olds i ≡ Some old → slice_get news i ≡ Some new → copy ≡ old → by ≡ (own_type new).function
    → more ≡ list ++ (let r : Replace = record { name = copy; by = by } in r) ∷ []
    → rows_of more ++ rows_between (drop (i + 1) olds) (drop (i + 1) news)
    ≡ rows_of list ++ rows_between (drop i olds) (drop i news)
row_added i olds news old new copy by list more o n c b e =
    ap (λ (z : List Replace). rows_of z ++ rows_between (drop (i + 1) olds) (drop (i + 1) news)) e
    ∙ ap (λ (z : List (TyName × TypeFn)). z ++ rows_between (drop (i + 1) olds) (drop (i + 1) news))
    (map-append (λ (r : Replace). row_for r.name r.by) list ((let r : Replace = record { name = copy; by = by } in r) ∷ []))
    ∙ append_assoc (rows_of list) (row_for copy by ∷ []) (rows_between (drop (i + 1) olds) (drop (i + 1) news))
    ∙ ap₂ (λ m f. rows_of list ++ row_for m f ∷ rows_between (drop (i + 1) olds) (drop (i + 1) news)) c b
    ∙ sym (ap₂ (λ (xs ys : List TyName). rows_of list ++ rows_between xs ys) (dropped_next i olds old o) (dropped_next i news new n))

pub row_none : (i : ℕ) (olds news : List TyName) (list : List Replace) → length news ≤ i
    → rows_of list ++ rows_between (drop (i + 1) olds) (drop (i + 1) news)
    ≡ rows_of list ++ rows_between (drop i olds) (drop i news)
row_none i olds news list n =
    let e : drop i news ≡ [] = past i news n in
    ap (λ (ys : List TyName). rows_of list ++ rows_between (drop (i + 1) olds) ys) (none_next i news e)
    ∙ ap (λ (z : List (TyName × TypeFn)). rows_of list ++ z) (no_rows (drop (i + 1) olds) ∙ sym (no_rows (drop i olds)))
    ∙ sym (ap (λ (ys : List TyName). rows_of list ++ rows_between (drop i olds) ys) e)
