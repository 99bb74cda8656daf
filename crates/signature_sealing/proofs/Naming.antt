-- Names alone as type functions, and names that are made one after the other.
use Rattle.std.proofs.Common.{◌≡◌, ℕ, zero, suc, ◌+◌, ◌<◌, ◌≤◌, refl, sym, ap, ap₂, ◌∙◌, subst, length-append, List, [], ◌∷◌, ◌++◌, length, map, true, ◌||◌, cond, arith}
use Rattle.std.proofs.lemmas.Bool.{eq-eqb, ne_eqb}
use Rattle.std.proofs.lemmas.List.{map-append}
use Rattle.semantic_objects.specs.declared.entry.TypeFn.{TypeFn}
use Rattle.semantic_objects.specs.declared.name.TyName.{TyName}
use Rattle.semantic_objects.specs.declared.symbol.Symbol.TheVariants as symbol
use Rattle.semantic_objects.specs.Trees.{Tree, Trees, trees_of}
use Rattle.unification.specs.Types.{Ty}
use Rattle.unification.specs.Closing.{is_among, place_of, closed_over, closed_over_all}
use Rattle.sml_modules.specs.Graphs.{Graph}
use Rattle.type_walks.specs.declared.replacing.Replace.{Replace}
use Rattle.type_walks.specs.Replaced.{rows_of}
use Rattle.static_semantics.specs.BasicTypes.{types_of}
use Rattle.static_semantics.specs.DatatypeInference.{counted, own_type}
use Rattle.module_semantics.specs.SignatureNames.{rows_between, unit_names}
use Rattle.semantic_objects.specs.Environments.{Env, Signature}
use Rattle.realisation.specs.Realised.{of_rows, realised}
use Rattle.type_walks.specs.Replaced.{put_by}
use Rattle.sml_modules.specs.declared.id.EnvId.{EnvId}
use Rattle.sml_modules.specs.declared.parts.SigParts.{SigParts}
use Rattle.sml_modules.specs.Graphs.{env_at, signature_of, Keeps, GivesEnv}
use Rattle.signature_sealing.specs.declared.renewal.NewNames.{NewNames}
use Rattle.signature_sealing.specs.Sealing.{new_names_of, with_names, IsOpened}

-- ---- a name with its variables

counted_last : (n first m : ℕ) → m ≡ first + n → counted (suc n) first ≡ counted n first ++ m ∷ []
counted_last zero first m e = ap (λ k. k ∷ []) (let k : first ≡ m = omega (arith, e) in k)
counted_last (suc n) first m e = ap (λ xs. first ∷ xs) (counted_last n (suc first) m (omega (arith, e)))

pub one_variable_more : (n m : ℕ) (trees : List Tree) (tree : Tree) → trees ≡ map Tree.Bound (counted n 0)
    → tree ≡ Tree.Bound n → m ≡ n + 1 → trees ++ tree ∷ [] ≡ map Tree.Bound (counted m 0)
one_variable_more n m trees tree e f g =
    ap₂ (λ xs x. xs ++ x ∷ []) e f
    ∙ sym (map-append Tree.Bound (counted n 0) (n ∷ []))
    ∙ ap (map Tree.Bound) (sym (counted_last n 0 n (omega arith)))
    ∙ ap (λ k. map Tree.Bound (counted k 0)) (let k : suc n ≡ m = omega (arith, g) in k)

length_counted : (n first : ℕ) → length (counted n first) ≡ n
length_counted zero first = refl
length_counted (suc n) first = ap suc (length_counted n (suc first))

pub count_variables : (n : ℕ) (trees : List Tree) → trees ≡ map Tree.Bound (counted n 0) → length trees ≡ n
count_variables n trees e = ap length e ∙ same (counted n 0) ∙ length_counted n 0
  where
    same : (xs : List ℕ) → length (map Tree.Bound xs) ≡ length xs
    same [] = refl
    same (x ∷ xs) = ap suc (same xs)

-- a variable among those that are counted, at its place
among : (n first i m : ℕ) → i < n → m ≡ first + i → is_among m (counted n first) ≡ true
among zero first i m h e = absurd (omega (arith, h))
among (suc n) first zero m h e = ap (λ b. b || is_among m (counted n (suc first)))
    (eq-eqb m first (omega (arith, e)))
among (suc n) first (suc i) m h e = ap₂ (λ b c. b || c)
    (ne_eqb m first (λ k. omega (arith, e, k))) (among n (suc first) i m (omega (arith, h)) (omega (arith, e)))

place : (n first i m : ℕ) → i < n → m ≡ first + i → place_of m (counted n first) ≡ i
place zero first i m h e = absurd (omega (arith, h))
place (suc n) first zero m h e = ap (λ b. cond b zero (suc (place_of m (counted n (suc first)))))
    (eq-eqb m first (omega (arith, e)))
place (suc n) first (suc i) m h e = ap (λ b. cond b zero (suc (place_of m (counted n (suc first)))))
    (ne_eqb m first (λ k. omega (arith, e, k)))
    ∙ ap suc (place n (suc first) i m (omega (arith, h)) (omega (arith, e)))

one_closed : (n i : ℕ) → i < n → closed_over (counted n 0) (Ty.Var i) ≡ Tree.Bound i
one_closed n i h =
    ap (λ c. cond c (Tree.Bound (place_of i (counted n 0))) (Tree.Free i)) (among n 0 i i h (omega arith))
    ∙ ap Tree.Bound (place n 0 i i h (omega arith))

all_closed : (n k first : ℕ) → first + k ≤ n
    → closed_over_all (counted n 0) (types_of (map Ty.Var (counted k first))) ≡ trees_of (map Tree.Bound (counted k first))
all_closed n zero first h = refl
all_closed n (suc k) first h = ap₂ Trees.Cons (one_closed n first (omega (arith, h)))
    (all_closed n k (suc first) (omega (arith, h)))

function_is : (a b : ℕ) (x y : Tree) → a ≡ b → x ≡ y
    → (let f : TypeFn = record { arity = a; body = x } in f) ≡ (let g : TypeFn = record { arity = b; body = y } in g)
function_is a b x y h k = cc

pub own_function : (name : TyName) (args : List Tree) (body : Tree) → args ≡ map Tree.Bound (counted name.arity 0)
    → body ≡ Tree.Made (symbol.Name name) (trees_of args)
    → (let f : TypeFn = record { arity = name.arity; body = body } in f) ≡ (own_type name).function
own_function name args body e f =
    function_is name.arity (length (counted name.arity 0)) body
    (closed_over (counted name.arity 0) (Ty.Made (symbol.Name name) (types_of (map Ty.Var (counted name.arity 0)))))
    (sym (length_counted name.arity 0))
    (f ∙ ap (λ xs. Tree.Made (symbol.Name name) (trees_of xs)) e
    ∙ ap (Tree.Made (symbol.Name name)) (sym (all_closed name.arity name.arity 0 (omega arith))))

-- ---- names one after the other

-- names were made for all but the rest of some names
pub record Named (g h : Graph) (olds rest names : List TyName) (list : List Replace) : Type 0 where
  pub are : names ++ unit_names g.home (length h.made) rest ≡ new_names_of g olds
  pub rows : rows_of list ++ rows_between rest (unit_names g.home (length h.made) rest)
      ≡ rows_between olds (new_names_of g olds)
  pub graph : h ≡ with_names names g

-- ---- signatures

rows_put : (news : NewNames) (sig : Signature) (olds : List TyName) (env : Env) (g : Graph)
    → olds ≡ sig.bound → rows_of news.by.list ≡ rows_between olds (new_names_of g olds) → env ≡ sig.env
    → realised (put_by news.by.list) env
    ≡ realised (of_rows (rows_between sig.bound (new_names_of g sig.bound))) sig.env
rows_put news sig olds env g e r f =
    ap (λ xs. realised (of_rows xs) env) r
    ∙ ap₂ (λ xs x. realised (of_rows (rows_between xs (new_names_of g xs))) x) e f

parts_bound : (g : Graph) (parts : SigParts) (sig : Signature) → signature_of g parts ≡ sig → parts.bound ≡ sig.bound
parts_bound g parts sig e = ap (λ (s : Signature). s.bound) e

parts_env : (g : Graph) (parts : SigParts) (sig : Signature) → signature_of g parts ≡ sig → env_at g parts.env ≡ sig.env
parts_env g parts sig e = ap (λ (s : Signature). s.env) e

-- the items of a graph stay where names are made
same_env : (g h : Graph) (names : List TyName) (id : EnvId) → h ≡ with_names names g → env_at h id ≡ env_at g id
same_env g h names id e = ap (λ (z : Graph). env_at z id) e

count_names : (home : List ℕ) (n : ℕ) (names : List TyName) → length (unit_names home n names) ≡ length names
count_names home n [] = refl
count_names home n (name ∷ names) = ap suc (count_names home (suc n) names)

keeps_named : (g h : Graph) (names : List TyName) → h ≡ with_names names g → Keeps g h
keeps_named g h names e = subst (λ z. Keeps g z) (sym e) (record {
  has_env = λ id k. k;
  env = λ id k. refl;
  has_signature = λ id k. k;
  signature = λ id k. refl;
  has_functor = λ id k. k;
  functor = λ id k. refl;
  has_top = λ id k. k;
  top = λ id k. refl;
})

keeps_both : (g h k : Graph) → Keeps g h → Keeps h k → Keeps g k
keeps_both g h k a b = record {
  has_env = λ id t. b.has_env id (a.has_env id t);
  env = λ id t. b.env id (a.has_env id t) ∙ a.env id t;
  has_signature = λ id t. b.has_signature id (a.has_signature id t);
  signature = λ id t. b.signature id (a.has_signature id t) ∙ a.signature id t;
  has_functor = λ id t. b.has_functor id (a.has_functor id t);
  functor = λ id t. b.functor id (a.has_functor id t) ∙ a.functor id t;
  has_top = λ id t. b.has_top id (a.has_top id t);
  top = λ id t. b.top id (a.has_top id t) ∙ a.top id t;
}

signature_same : (m n : List TyName) (d e : Env) → m ≡ n → d ≡ e
    → (let s : Signature = record { bound = m; env = d } in s) ≡ (let t : Signature = record { bound = n; env = e } in t)
signature_same m n d e h k = cc

pub opened_by : (g h k : Graph) (sig : Signature) (parts made : SigParts) (new : NewNames) (olds : List TyName)
    → signature_of g parts ≡ sig → olds ≡ parts.bound → new.names ≡ new_names_of g olds
    → rows_of new.by.list ≡ rows_between olds (new_names_of g olds)
    → h ≡ with_names (new_names_of g olds) g
    → GivesEnv h k (realised (put_by new.by.list) (env_at h parts.env)) made.env → made.bound ≡ new.names
    → IsOpened g k sig made
opened_by g h k sig parts made new olds e all names rows grown gives same =
    let bound : olds ≡ sig.bound = all ∙ parts_bound g parts sig e in
    let total : k.made ≡ g.made ++ new_names_of g sig.bound =
    gives.made ∙ ap (λ (z : Graph). z.made) grown ∙ ap (λ xs. g.made ++ new_names_of g xs) bound in
    record {
      there = gives.there;
      is = λ st n. signature_same made.bound (unit_names g.home st.names sig.bound) (env_at k made.env)
          (realised (of_rows (rows_between sig.bound (unit_names g.home st.names sig.bound))) sig.env)
          (same ∙ names ∙ ap₂ (λ m xs. unit_names g.home m xs) (sym n) bound)
          (gives.stands
          ∙ rows_put new sig olds (env_at h parts.env) g bound rows
          (same_env g h (new_names_of g olds) parts.env grown ∙ parts_env g parts sig e)
          ∙ ap (λ m. realised (of_rows (rows_between sig.bound (unit_names g.home m sig.bound))) sig.env) (sym n));
      names = λ st n. ap length total ∙ length-append g.made (new_names_of g sig.bound)
          ∙ ap₂ (λ a b. a + b) (sym n) (count_names g.home (length g.made) sig.bound);
      keeps = keeps_both g h k (keeps_named g h (new_names_of g olds) grown) gives.keeps;
      home = gives.home ∙ ap (λ (z : Graph). z.home) grown;
      made = total;
    }
