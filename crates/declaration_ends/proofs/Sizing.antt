-- The sizes of what a declaration made.
use Rattle.std.proofs.Common.{◌≡◌, ℕ, zero, suc, ◌+◌, ◌<◌, ◌≤◌, List, [], ◌∷◌, ◌++◌, length, map, drop, get_or, refl, sym, ap, ap₂, ◌∙◌, subst, Bool, true, false, ◌||◌, arith, eqb}
use Rattle.std.specs.Prelude.{Err, ltb, max}
use Rattle.std.specs.List.{list_any}
use Rattle.std.proofs.lemmas.Bool.{eqb-true, ltb-true, ltb-false}
use Rattle.std.proofs.lemmas.List.Folds.{list_any-append}
use Rattle.cm_base.specs.declared.fault.Fault.{Fault}
use Rattle.sml_trees.specs.declared.name.At.{At}
use Rattle.semantic_objects.specs.declared.name.TyId.{TyId}
use Rattle.semantic_objects.specs.declared.entry.ConEntry.{ConEntry}
use Rattle.semantic_objects.specs.declared.entry.TypeStr.{TypeStr}
use Rattle.semantic_objects.specs.declared.entry.ValueEntry.{ValueEntry}
use Rattle.semantic_objects.specs.Tables.{Table as Named, with_entry, with_all}
use Rattle.semantic_objects.specs.Trees.{Tree, Trees}
use Rattle.semantic_objects.specs.Environments.{Env, Structures, structures_of}
use Rattle.unification.specs.Types.{Ty, Substitution, State, put, put_all, size, size_all}
use Rattle.unification.specs.Instances.{fill, fill_all}
use Rattle.unification.proofs.Walking.{or_left, or_false_left, or_false_right}
use Rattle.type_nodes.specs.Facts.{capped}
use Rattle.type_nodes.specs.Tables.{Table, Has, state, type_of, whole}
use Rattle.type_schemes.specs.Schemes.{HaveAll}
use Rattle.type_functions.specs.Applied.{with_types}
use Rattle.sml_modules.specs.Items.{map_rows}
use Rattle.env_parts.specs.Types.{tree_size, trees_size, holds_free, any_holds_free, facts_of, types_in, types_in_structures, types_in_types, types_in_values}
use Rattle.env_parts.specs.Types as parts
use Rattle.sml_modules.specs.Graphs.{Graph, structure_rows, type_rows}
use Rattle.sml_modules.specs.declared.parts.NamedType.{NamedType}
use Rattle.sml_modules.proofs.Setting.{all_map}
use Rattle.static_semantics.specs.BasicTypes.{unit_ty, int_ty}
use Rattle.static_semantics.specs.Inferring.{Progress, Answer, ◌>>=◌, gives, refuses_where, seen, con_bodies, type_bodies, value_bodies, bodies, structure_bodies, has_too_large, sized_dec}
use Rattle.core_scopes.specs.declared.made.Made.{Made}
use Rattle.core_scopes.specs.declared.made.NamedInScope.{NamedInScope}
use Rattle.core_scopes.specs.Scopes.{entry_of}
use Rattle.core_scopes.specs.Marks.{value_rows, env_of_made}
use Rattle.env_parts.proofs.Tabling.{drop_next, drop_past}
use Rattle.type_phrases.specs.Inferred.{Answers, Refuses, home_scope}
use Rattle.type_phrases.proofs.Steps.{refused}
use Rattle.pattern_elab.specs.declared.own.OwnVariable.{OwnVariable}
use Rattle.pattern_elab.specs.Scopes.{own_entry}
use Rattle.declaration_ends.specs.Sizes.{AreAll, is_large_in, any_large, large_value, large_type, flag, any_flag}

-- ---- one tree

mutual
  size_seen : (s b : Substitution) (x : Tree) → ((i : ℕ) → size (put s (b i)) ≡ 1)
      → size (put s (fill b Ty.Var x)) ≡ size (fill (λ i. unit_ty) s x)
  size_seen s b (Tree.Bound i) h = h i
  size_seen s b (Tree.Free n) h = refl
  size_seen s b (Tree.Made c xs) h = ap (λ n. n + 1) (size_seen_all s b xs h)

  size_seen_all : (s b : Substitution) (xs : Trees) → ((i : ℕ) → size (put s (b i)) ≡ 1)
      → size_all (put_all s (fill_all b Ty.Var xs)) ≡ size_all (fill_all (λ i. unit_ty) s xs)
  size_seen_all s b Trees.Nil h = refl
  size_seen_all s b (Trees.Cons x xs) h = ap₂ (λ m n. m + n) (size_seen s b x h) (size_seen_all s b xs h)

all_ints : (t : Table) (filler : TyId) (args : List TyId) (i : ℕ) → type_of t filler ≡ int_ty → AreAll filler args
    → get_or (map (type_of t) args) i int_ty ≡ int_ty
all_ints t filler [] i h k = refl
all_ints t filler (a ∷ args) zero h k = ap (type_of t) k.0 ∙ h
all_ints t filler (a ∷ args) (suc i) h k = all_ints t filler args i h k.1

pub read_is : (t0 t1 t2 : Table) (filler id : TyId) (args : List TyId) (x y : Tree) (n : ℕ)
    → n ≡ capped (size (whole t2 id))
    → ((other : Ty) → type_of t2 id ≡ with_types other (map (type_of t1) args) y) → y ≡ x → state t2 ≡ state t1
    → state t1 ≡ state t0 → type_of t1 filler ≡ int_ty → AreAll filler args
    → n ≡ capped (size (seen (state t0).stands x))
read_is t0 t1 t2 filler id args x y n h made same later st is all =
    h
    ∙ ap (λ (s : State). capped (size (put s.stands (type_of t2 id)))) (later ∙ st)
    ∙ ap (λ u. capped (size (put (state t0).stands u)))
    (made int_ty ∙ ap (with_types int_ty (map (type_of t1) args)) same)
    ∙ ap capped (size_seen (state t0).stands (λ i. get_or (map (type_of t1) args) i int_ty) x
    (λ i. ap (λ u. size (put (state t0).stands u)) (all_ints t1 filler args i is all)))

pub all_have : (t : Table) (filler : TyId) (args : List TyId) → Has t filler → AreAll filler args → HaveAll t args
all_have t filler [] h k i a e = absurd (cc)
all_have t filler (x ∷ args) h k zero a e =
    let f : x ≡ a = cc in subst (Has t) (sym k.0 ∙ f) h
all_have t filler (x ∷ args) h k (suc i) a e = all_have t filler args h k.1 i a e

pub all_more : (filler : TyId) (args new : List TyId) → AreAll filler args → new ≡ args ++ filler ∷ []
    → AreAll filler new
all_more filler args new h e = subst (AreAll filler) (sym e) (behind args h)
  where
    behind : (xs : List TyId) → AreAll filler xs → AreAll filler (xs ++ filler ∷ [])
    behind [] k = (refl, tt)
    behind (x ∷ xs) k = (k.0, behind xs k.1)

pub over_limit : (c n : ℕ) → c ≡ capped n → ltb 65536 c ≡ ltb 65536 n
over_limit c n h = by_tests (ltb 65536 c) (ltb 65536 n) refl refl
  where
    by_tests : (a b : Bool) → ltb 65536 c ≡ a → ltb 65536 n ≡ b → a ≡ b
    by_tests true true e f = refl
    by_tests false false e f = refl
    by_tests true false e f =
        let k : 65536 < c = ltb-true 65536 c e in
        let l : n ≤ 65536 = ltb-false 65536 n f in absurd (omega (arith, h, k, l))
    by_tests false true e f =
        let k : c ≤ 65536 = ltb-false 65536 c e in
        let l : 65536 < n = ltb-true 65536 n f in absurd (omega (arith, h, k, l))

-- ---- entries

pub not_one : (x : ℕ) → (x ≡ 1 → ⊥) → eqb 1 x ≡ false
not_one x h = by_test (eqb 1 x) refl
  where
    by_test : (b : Bool) → eqb 1 x ≡ b → b ≡ false
    by_test true e = absurd (h (sym (eqb-true 1 x e)))
    by_test false e = refl

-- the first tree of some, and those behind it
pub any_here : {A : Type 0} (p : A → Bool) (all rest : List A) (x : A) (b : Bool) → all ≡ x ∷ rest → b ≡ p x
    → b ≡ true → true ≡ list_any p all
any_here {A} p all rest x b e h k =
    sym (ap (λ (xs : List A). list_any p xs) e ∙ or_left (p x) (list_any p rest) (sym h ∙ k))

pub any_behind : {A : Type 0} (p : A → Bool) (all rest : List A) (x : A) (b : Bool) → all ≡ x ∷ rest → b ≡ p x
    → b ≡ false → list_any p all ≡ list_any p rest
any_behind {A} p all rest x b e h k =
    ap (λ (xs : List A). list_any p xs) e ∙ ap (λ c. c || list_any p rest) (sym h ∙ k)

pub none_any : {A : Type 0} (p : A → Bool) (all : List A) → all ≡ [] → false ≡ list_any p all
none_any {A} p all e = sym (ap (λ (xs : List A). list_any p xs) e)

pub cons_next : (items cons : List ConEntry) (i : ℕ) (x : ConEntry) → items ≡ cons → i < length items
    → x ≡ get_or items i x → con_bodies (drop i cons) ≡ x.scheme.body ∷ con_bodies (drop (i + 1) cons)
cons_next items cons i x e h k =
    ap con_bodies (subst (λ ys. drop i ys ≡ x ∷ drop (i + 1) ys) e
    (drop_next i items x h ∙ ap (λ y. y ∷ drop (i + 1) items) (sym k)))

pub cons_end : (items cons : List ConEntry) (i : ℕ) → items ≡ cons → length items ≤ i → con_bodies (drop i cons) ≡ []
cons_end items cons i e h =
    ap con_bodies (subst (λ ys. drop i ys ≡ []) e (drop_past i items h))

-- ---- tables

flag_is : (b : Bool) → eqb 1 (flag b) ≡ b
flag_is true = refl
flag_is false = refl

values_flagged : (s : Substitution) (table : Named ValueEntry)
    → any_flag (map_rows (λ (e : ValueEntry). flag (large_value s e)) table) ≡ any_large s (value_bodies table)
values_flagged s [] = refl
values_flagged s (row ∷ table) = ap₂ (λ a b. a || b) (flag_is (large_value s row.1)) (values_flagged s table)

or_group : (a b c : Bool) → ((a || b) || c) ≡ (a || (b || c))
or_group true b c = refl
or_group false b c = refl

types_flagged : (s : Substitution) (table : Named TypeStr)
    → any_flag (map_rows (λ (e : TypeStr). flag (large_type s e)) table) ≡ any_large s (type_bodies table)
types_flagged s [] = refl
types_flagged s (row ∷ table) =
    ap₂ (λ a b. a || b) (flag_is (large_type s row.1)) (types_flagged s table)
    ∙ or_group (is_large_in s row.1.function.body) (any_large s (con_bodies row.1.cons)) (any_large s (type_bodies table))
    ∙ ap (λ b. is_large_in s row.1.function.body || b)
    (sym (list_any-append (is_large_in s) (con_bodies row.1.cons) (type_bodies table)))

abbrev pub value_flags : Substitution → List (NamedInScope OwnVariable) → Named ℕ
value_flags s values = map_rows (λ (e : ValueEntry). flag (large_value s e)) (value_rows own_entry values)

abbrev pub type_flags : Substitution → List NamedType → Named ℕ
type_flags s types = map_rows (λ (e : TypeStr). flag (large_type s e)) (type_rows types)

-- one value more was noted
pub value_noted : (s : Substitution) (items values : List (NamedInScope OwnVariable)) (i : ℕ)
    (x : NamedInScope OwnVariable) (rows new : Named ℕ) (large : Bool) → items ≡ values → i < length items
    → x ≡ get_or items i x → large ≡ large_value s (entry_of own_entry x.entry)
    → new ≡ with_entry x.name (flag large) rows
    → with_all (value_flags s (drop i values)) rows ≡ with_all (value_flags s values) []
    → with_all (value_flags s (drop (i + 1) values)) new ≡ with_all (value_flags s values) []
value_noted s items values i x rows new large e h k l n inv =
    let is : drop i values ≡ x ∷ drop (i + 1) values = subst (λ ys. drop i ys ≡ x ∷ drop (i + 1) ys) e
    (drop_next i items x h ∙ ap (λ y. y ∷ drop (i + 1) items) (sym k)) in
    ap (with_all (value_flags s (drop (i + 1) values))) (n ∙ ap (λ b. with_entry x.name (flag b) rows) l)
    ∙ ap (λ xs. with_all (value_flags s xs) rows) (sym is)
    ∙ inv

pub type_noted : (s : Substitution) (items types : List NamedType) (i : ℕ) (x : NamedType) (rows new : Named ℕ)
    (large : Bool) → items ≡ types → i < length items → x ≡ get_or items i x → large ≡ large_type s x.entry
    → new ≡ with_entry x.name (flag large) rows
    → with_all (type_flags s (drop i types)) rows ≡ with_all (type_flags s types) []
    → with_all (type_flags s (drop (i + 1) types)) new ≡ with_all (type_flags s types) []
type_noted s items types i x rows new large e h k l n inv =
    let is : drop i types ≡ x ∷ drop (i + 1) types = subst (λ ys. drop i ys ≡ x ∷ drop (i + 1) ys) e
    (drop_next i items x h ∙ ap (λ y. y ∷ drop (i + 1) items) (sym k)) in
    ap (with_all (type_flags s (drop (i + 1) types))) (n ∙ ap (λ b. with_entry x.name (flag b) rows) l)
    ∙ ap (λ xs. with_all (type_flags s xs) rows) (sym is)
    ∙ inv

pub all_values : (s : Substitution) (items values : List (NamedInScope OwnVariable)) (i : ℕ) (rows : Named ℕ) (b : Bool)
    → items ≡ values → length items ≤ i
    → with_all (value_flags s (drop i values)) rows ≡ with_all (value_flags s values) [] → b ≡ any_flag rows
    → b ≡ any_large s (value_bodies (with_all (value_rows own_entry values) []))
all_values s items values i rows b e h inv k =
    let end : drop i values ≡ [] = subst (λ ys. drop i ys ≡ []) e (drop_past i items h) in
    k
    ∙ ap any_flag (ap (λ xs. with_all (value_flags s xs) rows) (sym end) ∙ inv
    ∙ all_map (λ (x : ValueEntry). flag (large_value s x)) (value_rows own_entry values) [])
    ∙ values_flagged s (with_all (value_rows own_entry values) [])

pub all_types : (s : Substitution) (items types : List NamedType) (i : ℕ) (rows : Named ℕ) (b : Bool)
    → items ≡ types → length items ≤ i
    → with_all (type_flags s (drop i types)) rows ≡ with_all (type_flags s types) [] → b ≡ any_flag rows
    → b ≡ any_large s (type_bodies (with_all (type_rows types) []))
all_types s items types i rows b e h inv k =
    let end : drop i types ≡ [] = subst (λ ys. drop i ys ≡ []) e (drop_past i items h) in
    k
    ∙ ap any_flag (ap (λ xs. with_all (type_flags s xs) rows) (sym end) ∙ inv
    ∙ all_map (λ (x : TypeStr). flag (large_type s x)) (type_rows types) [])
    ∙ types_flagged s (with_all (type_rows types) [])

-- ---- structures

mutual
  closed_size : (s : Substitution) (x : Tree) → holds_free x ≡ false → size (seen s x) ≡ tree_size x
  closed_size s (Tree.Bound i) h = refl
  closed_size s (Tree.Free n) h = absurd (cc)
  closed_size s (Tree.Made c xs) h =
      let k : size_all (fill_all (λ i. unit_ty) s xs) ≡ trees_size xs = closed_sizes s xs h in omega (arith, k)

  closed_sizes : (s : Substitution) (xs : Trees) → any_holds_free xs ≡ false
      → size_all (fill_all (λ i. unit_ty) s xs) ≡ trees_size xs
  closed_sizes s Trees.Nil h = refl
  closed_sizes s (Trees.Cons x xs) h = ap₂ (λ m n. m + n)
      (closed_size s x (or_false_left (holds_free x) (any_holds_free xs) h))
      (closed_sizes s xs (or_false_right (holds_free x) (any_holds_free xs) h))

larger : (a b : ℕ) → ltb 65536 (max a b) ≡ (ltb 65536 a || ltb 65536 b)
larger a b = by_tests (ltb 65536 a) (ltb 65536 b) (ltb 65536 (max a b)) refl refl refl
  where
    by_tests : (x y z : Bool) → ltb 65536 a ≡ x → ltb 65536 b ≡ y → ltb 65536 (max a b) ≡ z → z ≡ (x || y)
    by_tests x y true e f g = big x y e f
      where
        big : (x y : Bool) → ltb 65536 a ≡ x → ltb 65536 b ≡ y → true ≡ (x || y)
        big true y e f = refl
        big false true e f = refl
        big false false e f =
            let k : a ≤ 65536 = ltb-false 65536 a e in
            let l : b ≤ 65536 = ltb-false 65536 b f in
            let m : 65536 < max a b = ltb-true 65536 (max a b) g in absurd (omega (arith, k, l, m))
    by_tests true y false e f g =
        let k : 65536 < a = ltb-true 65536 a e in
        let m : max a b ≤ 65536 = ltb-false 65536 (max a b) g in absurd (omega (arith, k, m))
    by_tests false true false e f g =
        let k : 65536 < b = ltb-true 65536 b f in
        let m : max a b ≤ 65536 = ltb-false 65536 (max a b) g in absurd (omega (arith, k, m))
    by_tests false false false e f g = refl

pub facts_large : (s : Substitution) (xs : List Tree) → (facts_of xs).has_free ≡ false
    → ltb 65536 (facts_of xs).largest ≡ any_large s xs
facts_large s [] h = refl
facts_large s (x ∷ xs) h =
    let k : holds_free x ≡ false = or_false_left (holds_free x) (facts_of xs).has_free h in
    larger (parts.capped (tree_size x)) (facts_of xs).largest
    ∙ ap₂ (λ a b. a || b)
    (over_limit (parts.capped (tree_size x)) (tree_size x) refl ∙ ap (ltb 65536) (sym (closed_size s x k)))
    (facts_large s xs (or_false_right (holds_free x) (facts_of xs).has_free h))

same_values : (table : Named ValueEntry) → value_bodies table ≡ types_in_values table
same_values [] = refl
same_values (row ∷ table) = ap (λ (xs : List Tree). row.1.scheme.body ∷ xs) (same_values table)

same_types : (table : Named TypeStr) → type_bodies table ≡ types_in_types table
same_types [] = refl
same_types (row ∷ table) =
    ap (λ (xs : List Tree). row.1.function.body ∷ (con_bodies row.1.cons ++ xs)) (same_types table)

mutual
  same_trees : (env : Env) → bodies env ≡ types_in env
  same_trees (Env.MakeEnv ss ts vs) = ap₂ (λ (a b : List Tree). a ++ b) (same_structures ss)
      (ap₂ (λ (a b : List Tree). a ++ b) (same_types ts) (same_values vs))

  pub same_structures : (ss : Structures) → structure_bodies ss ≡ types_in_structures ss
  same_structures Structures.Nil = refl
  same_structures (Structures.Cons name env rest) =
      ap₂ (λ (a b : List Tree). a ++ b) (same_trees env) (same_structures rest)

-- ---- the whole

abbrev pub structures_of_made : Graph → Made OwnVariable → List Tree
structures_of_made g made = structure_bodies (structures_of (with_all (structure_rows g made.structures) []))

abbrev pub types_of_made : Made OwnVariable → List Tree
types_of_made made = type_bodies (with_all (type_rows made.types) [])

abbrev pub values_of_made : Made OwnVariable → List Tree
values_of_made made = value_bodies (with_all (value_rows own_entry made.values) [])

made_large : (g : Graph) (s : Substitution) (made : Made OwnVariable)
    → has_too_large s (env_of_made g own_entry made)
    ≡ (any_large s (structures_of_made g made) || (any_large s (types_of_made made) || any_large s (values_of_made made)))
made_large g s made =
    list_any-append (is_large_in s) (structures_of_made g made) (types_of_made made ++ values_of_made made)
    ∙ ap (λ b. any_large s (structures_of_made g made) || b)
    (list_any-append (is_large_in s) (types_of_made made) (values_of_made made))

pub made_sized : (g : Graph) (at : At) (made : Made OwnVariable) (st : Progress) (a b c : Bool)
    → a ≡ any_large st.types.stands (structures_of_made g made) → a ≡ false
    → b ≡ any_large st.types.stands (types_of_made made) → b ≡ false
    → c ≡ any_large st.types.stands (values_of_made made) → c ≡ false
    → sized_dec (home_scope g) at (env_of_made g own_entry made, st) ≡ gives (env_of_made g own_entry made, st)
made_sized g at made st a b c h i j k l m =
    ap (λ d. refuses_where d 38 (home_scope g) at >>= λ u. gives (env_of_made g own_entry made, st))
    (made_large g st.types.stands made
    ∙ ap₂ (λ x y. x || y) (sym h ∙ i) (ap₂ (λ x y. x || y) (sym j ∙ k) (sym l ∙ m)))

pub made_refused : {R : Type 0} (g : Graph) (at : At) (made : Made OwnVariable) (st : Progress)
    (read : R → Env × Progress) (e : Fault)
    → (any_large st.types.stands (structures_of_made g made)
    || (any_large st.types.stands (types_of_made made) || any_large st.types.stands (values_of_made made))) ≡ true
    → Refuses g 38 at [] e → Answers (sized_dec (home_scope g) at (env_of_made g own_entry made, st)) read (Err e)
made_refused g at made st read e h f =
    subst (λ (w : Answer (Env × Progress)). Answers w read (Err e))
    (sym (ap (λ c. refuses_where c 38 (home_scope g) at >>= λ u. gives (env_of_made g own_entry made, st))
    (made_large g st.types.stands made ∙ h)))
    (refused g (home_scope g) 38 at [] read e refl f)
