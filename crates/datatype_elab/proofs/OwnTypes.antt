-- Type names applied to the variables of their lists.
use Rattle.std.proofs.Common.{◌≡◌, ℕ, ◌+◌, ◌<◌, List, [], ◌∷◌, ◌++◌, length, map, refl, sym, ap, ap₂, ◌∙◌, zero, suc, arith, cond}
use Rattle.std.proofs.lemmas.Bool.{lt-ltb}
use Rattle.std.proofs.lemmas.List.{map-append, length-map}
use Rattle.semantic_objects.specs.declared.name.TyName.{TyName}
use Rattle.semantic_objects.specs.declared.entry.TypeStr.{TypeStr}
use Rattle.semantic_objects.specs.declared.symbol.Symbol.TheVariants as symbol
use Rattle.semantic_objects.specs.Trees.{Tree, Trees, trees_of}
use Rattle.unification.specs.Types.{Ty}
use Rattle.unification.specs.Closing.{place_of, closed_over, closed_over_all}
use Rattle.static_semantics.specs.BasicTypes.{types_of}
use Rattle.static_semantics.specs.TypeInference.{plain_type}
use Rattle.static_semantics.specs.DatatypeInference.{counted, own_ty, own_type}
use Rattle.listed_types.proofs.Closing.{among_from, place_from}
use Rattle.datatype_elab.specs.OwnTypes.{own_tree}

pub length-counted : (n first : ℕ) → length (counted n first) ≡ n
length-counted zero first = refl
length-counted (suc n) first = let k : length (counted n (suc first)) ≡ n = length-counted n (suc first) in omega (arith, k)

pub counted_more : (n first : ℕ) → counted (suc n) first ≡ counted n first ++ (first + n) ∷ []
counted_more zero first = ap (λ m. m ∷ []) (let k : first ≡ first + 0 = omega arith in k)
counted_more (suc n) first =
    ap (λ ms. first ∷ ms) (counted_more n (suc first)
    ∙ ap (λ m. counted n (suc first) ++ m ∷ []) (let k : suc first + n ≡ first + suc n = omega arith in k))

pub bound_more : (trees new : List Tree) (n : ℕ) (t : Tree) → trees ≡ map Tree.Bound (counted n 0) → t ≡ Tree.Bound n
    → new ≡ trees ++ t ∷ [] → new ≡ map Tree.Bound (counted (n + 1) 0)
bound_more trees new n t e f h =
    h ∙ ap₂ (λ ts u. ts ++ u ∷ []) e f
    ∙ ap (λ m. map Tree.Bound (counted n 0) ++ Tree.Bound m ∷ []) (let k : n ≡ 0 + n = omega arith in k)
    ∙ sym (map-append Tree.Bound (counted n 0) ((0 + n) ∷ []))
    ∙ ap (map Tree.Bound) (sym (counted_more n 0))
    ∙ ap (λ m. map Tree.Bound (counted m 0)) (let k : suc n ≡ n + 1 = omega arith in k)

bound_is : (k first j : ℕ) → j < k → closed_over (counted k first) (Ty.Var (first + j)) ≡ Tree.Bound j
bound_is k first j h =
    ap (λ c. cond c (Tree.Bound (place_of (first + j) (counted k first))) (Tree.Free (first + j)))
    (among_from k first j (first + j) refl ∙ lt-ltb j k h)
    ∙ ap Tree.Bound (place_from k first j (first + j) refl h)

own_args : (k first m j : ℕ) → j + m ≡ k
    → closed_over_all (counted k first) (types_of (map Ty.Var (counted m (first + j))))
    ≡ trees_of (map Tree.Bound (counted m j))
own_args k first zero j e = refl
own_args k first (suc m) j e =
    ap₂ Trees.Cons (bound_is k first j (omega (arith, e)))
    (ap (λ n. closed_over_all (counted k first) (types_of (map Ty.Var (counted m n))))
    (let l : suc (first + j) ≡ first + suc j = omega arith in l)
    ∙ own_args k first m (suc j) (omega (arith, e)))

pub own_closed : (name : TyName) (k first : ℕ) → name.arity ≡ k
    → closed_over (counted k first) (own_ty name (counted k first)) ≡ own_tree name
own_closed name k first e =
    ap (Tree.Made (symbol.Name name))
    (ap (λ n. closed_over_all (counted k first) (types_of (map Ty.Var (counted k n))))
    (let l : first ≡ first + 0 = omega arith in l)
    ∙ own_args k first k 0 (omega arith)
    ∙ ap (λ n. trees_of (map Tree.Bound (counted n 0))) (sym e))

abbrev str_of : ℕ → Tree → TypeStr
str_of arity body = plain_type (record { arity = arity; body = body })

pub own_type_is : (name : TyName) (str : TypeStr) (body : Tree) → str ≡ str_of name.arity body → body ≡ own_tree name
    → str ≡ own_type name
own_type_is name str body e f =
    e ∙ ap₂ str_of (sym (length-counted name.arity 0)) (f ∙ sym (own_closed name name.arity 0 refl))

pub args_counted : (name copy : TyName) (args : List Tree) → args ≡ map Tree.Bound (counted name.arity 0) → copy ≡ name
    → length args ≡ copy.arity
args_counted name copy args e f =
    ap length e ∙ length-map (counted name.arity 0) Tree.Bound ∙ length-counted name.arity 0
    ∙ ap (λ (n : TyName). n.arity) (sym f)
