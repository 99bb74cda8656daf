-- Types that are specified by their names, one after another.
use Rattle.std.proofs.Common.{◌≡◌, ℕ, ◌+◌, ◌<◌, refl, sym, ap, ap₂, ◌∙◌, subst, List, [], ◌∷◌, ◌++◌, length, map, Some, None, Bool, true, false, zero, suc, arith, cond}
use Rattle.std.specs.Prelude.{Result, Ok, Err, IsErrAnd}
use Rattle.std.proofs.lemmas.Bool.{lt-ltb}
use Rattle.std.proofs.lemmas.List.{map-append, length-map, length-append}
use Rattle.cm_base.specs.declared.fault.Fault.{Fault}
use Rattle.cm_base.specs.declared.fault.Fault.TheVariants as fault
use Rattle.sml_trees.specs.declared.name.At.{At}
use Rattle.semantic_objects.specs.declared.name.TyName.{TyName}
use Rattle.semantic_objects.specs.declared.entry.TypeStr.{TypeStr}
use Rattle.semantic_objects.specs.declared.symbol.Symbol.TheVariants as symbol
use Rattle.semantic_objects.specs.Environments.{Env, Signature, empty_env, with_type, modified_by}
use Rattle.semantic_objects.specs.Trees.{Tree, Trees, trees_of}
use Rattle.unification.specs.Types.{Ty}
use Rattle.unification.specs.Closing.{place_of, closed_over, closed_over_all}
use Rattle.type_nodes.specs.Tables.{Table, state}
use Rattle.sml_modules.specs.Graphs.{Graph, new_name_of}
use Rattle.sml_modules.specs.Graphs as graphs
use Rattle.name_trails.specs.Trails.{Rows}
use Rattle.static_semantics.specs.BasicTypes.{types_of}
use Rattle.static_semantics.specs.Inferring.{Progress, Scope, Answer, ◌>>=◌, gives, refuses_where, name_at}
use Rattle.static_semantics.specs.TypeInference.{plain_type, listed}
use Rattle.static_semantics.specs.DatatypeInference.{counted, own_name, own_type, after_names}
use Rattle.listed_types.proofs.Closing.{among_from, place_from}
use Rattle.type_phrases.specs.Inferred.{Answers, progress}
use Rattle.type_phrases.proofs.Steps.{failed}
use Rattle.type_phrases.proofs.PartsRead.{passed_on}
use Rattle.module_semantics.specs.SigPhrases.{TypeDescPhrase}
use Rattle.module_semantics.specs.SignatureNames.{also_bound}
use Rattle.module_semantics.specs.SignatureInference.{have_common, specified, infer_type_descs}
use Rattle.signature_specs.specs.Types.{own_tree, with_name, infer_type_desc}

-- ---- a name applied to its variables

length-counted : (n first : ℕ) → length (counted n first) ≡ n
length-counted zero first = refl
length-counted (suc n) first = let k : length (counted n (suc first)) ≡ n = length-counted n (suc first) in omega (arith, k)

counted_more : (n first : ℕ) → counted (suc n) first ≡ counted n first ++ (first + n) ∷ []
counted_more zero first = ap (λ m. m ∷ []) (let k : first ≡ first + 0 = omega arith in k)
counted_more (suc n) first =
    ap (λ ms. first ∷ ms) (counted_more n (suc first)
    ∙ ap (λ m. counted n (suc first) ++ m ∷ []) (let k : suc first + n ≡ first + suc n = omega arith in k))

pub bound_more : (trees new : List Tree) (n : ℕ) (t : Tree) → trees ≡ map Tree.Bound (counted n 0) → t ≡ Tree.Bound n
    → new ≡ trees ++ t ∷ [] → new ≡ map Tree.Bound (counted (n + 1) 0)
bound_more trees new n t e f h =
    h ∙ ap₂ (λ ts u. ts ++ u ∷ []) e f
    ∙ ap (λ m. map Tree.Bound (counted n 0) ++ Tree.Bound m ∷ []) (let k : n ≡ 0 + n = omega arith in k)
    ∙ sym (map-append Tree.Bound (counted n 0) ((0 + n) ∷ []))
    ∙ ap (map Tree.Bound) (sym (counted_more n 0))
    ∙ ap (λ m. map Tree.Bound (counted m 0)) (let k : suc n ≡ n + 1 = omega arith in k)

bound_is : (k j : ℕ) → j < k → closed_over (counted k 0) (Ty.Var j) ≡ Tree.Bound j
bound_is k j h =
    ap (λ c. cond c (Tree.Bound (place_of j (counted k 0))) (Tree.Free j)) (among_from k 0 j j (omega arith) ∙ lt-ltb j k h)
    ∙ ap Tree.Bound (place_from k 0 j j (omega arith) h)

own_args : (k m j : ℕ) → j + m ≡ k
    → closed_over_all (counted k 0) (types_of (map Ty.Var (counted m j))) ≡ trees_of (map Tree.Bound (counted m j))
own_args k zero j e = refl
own_args k (suc m) j e =
    ap₂ Trees.Cons (bound_is k j (omega (arith, e))) (own_args k m (suc j) (omega (arith, e)))

abbrev str_of : ℕ → Tree → TypeStr
str_of arity body = plain_type (record { arity = arity; body = body })

pub own_type_is : (name : TyName) (str : TypeStr) (body : Tree) → str ≡ str_of name.arity body → body ≡ own_tree name
    → str ≡ own_type name
own_type_is name str body e f =
    e ∙ ap₂ str_of (sym (length-counted name.arity 0))
    (f ∙ sym (ap (Tree.Made (symbol.Name name)) (own_args name.arity name.arity 0 (omega arith))))

pub args_counted : (name copy : TyName) (args : List Tree) → args ≡ map Tree.Bound (counted name.arity 0) → copy ≡ name
    → length args ≡ copy.arity
args_counted name copy args e f =
    ap length e ∙ length-map (counted name.arity 0) Tree.Bound ∙ length-counted name.arity 0
    ∙ ap (λ (n : TyName). n.arity) (sym f)

-- ---- one type

abbrev set : Env → Signature → Signature
set part sig = record { bound = sig.bound; env = modified_by sig.env part }

also_made : (inner : Scope) (at : At) (part : Env) (sig : Signature) (names : List TyName) (more : Signature)
    → specified inner at part sig ≡ gives more
    → specified inner at part (also_bound names sig) ≡ gives (also_bound names more)
also_made inner at part sig names more e = by_test (have_common part sig.env) e
  where
    by_test : (b : Bool) → (refuses_where b 40 inner at >>= λ u. gives (set part sig)) ≡ gives more
        → (refuses_where b 40 inner at >>= λ u. gives (set part (also_bound names sig))) ≡ gives (also_bound names more)
    by_test true f = absurd (cc)
    by_test false f = let k : set part sig ≡ more = cc in ap (λ s. gives (also_bound names s)) k

also_refused : {R S : Type 0} (inner : Scope) (at : At) (part : Env) (sig : Signature) (names : List TyName)
    (r : R → Signature) (s : S → Signature) (e : Fault) → Answers (specified inner at part sig) r (Err e)
    → Answers (specified inner at part (also_bound names sig)) s (Err e)
also_refused inner at part sig names r s fault.NoMemory h = tt
also_refused inner at part sig names r s (fault.Diag d) h = by_test (have_common part sig.env) h
  where
    by_test : (b : Bool) → (refuses_where b 40 inner at >>= λ u. gives (set part sig)) ≡ Some (Err d)
        → (refuses_where b 40 inner at >>= λ u. gives (set part (also_bound names sig))) ≡ Some (Err d)
    by_test true f = let k = f in cc
    by_test false f = absurd (cc)

module _ (inner : Scope) (eq : Bool) (desc : TypeDescPhrase) (sig : Signature) (g : Graph) (t mid : Table)
    (home : inner.home ≡ g.home) where
  pub unlisted : {S : Type 0} (r : Rows ℕ → Rows ℕ × Progress) (s : S → Signature × Progress) (e : Fault)
      (q : Result S Fault) → IsErrAnd q (λ f. f ≡ e) → Answers (listed inner desc.tyvars [] (progress t g)) r (Err e)
      → Answers (infer_type_desc inner eq desc sig (progress t g)) s q
  unlisted r s e q is h =
      passed_on (λ z. Answers (infer_type_desc inner eq desc sig (progress t g)) s z) q e is
      (failed (listed inner desc.tyvars [] (progress t g))
      (λ p. with_name inner desc (own_name inner.home (length g.made) (length desc.tyvars) eq) sig
      >>= λ z. gives (z, after_names 1 p.1)) r s e h)

  module _ (own : Rows ℕ) (name : TyName) (arity : ℕ) (str : TypeStr)
      (lists : listed inner desc.tyvars [] (progress t g) ≡ gives (own, progress mid g))
      (count : arity ≡ length desc.tyvars) (new : name ≡ new_name_of g arity eq) (named : str ≡ own_type name) where
    name_is : own_name inner.home (length g.made) (length desc.tyvars) eq ≡ name
    name_is = ap₂ (λ h n. own_name h (length g.made) n eq) home (sym count) ∙ sym new

    rest_is : infer_type_desc inner eq desc sig (progress t g)
        ≡ (specified inner (name_at desc.name) (with_type desc.name.text str empty_env) (also_bound (name ∷ []) sig)
        >>= λ z. gives (z, after_names 1 (progress mid g)))
    rest_is =
        ap (λ (m : Answer (Rows ℕ × Progress)). m
        >>= λ p. with_name inner desc (own_name inner.home (length g.made) (length desc.tyvars) eq) sig
        >>= λ z. gives (z, after_names 1 p.1)) lists
        ∙ ap (λ (n : TyName). with_name inner desc n sig >>= λ z. gives (z, after_names 1 (progress mid g))) name_is
        ∙ ap (λ (z : TypeStr).
        specified inner (name_at desc.name) (with_type desc.name.text z empty_env) (also_bound (name ∷ []) sig)
        >>= λ z. gives (z, after_names 1 (progress mid g))) (sym named)

    pub untaken : {R S : Type 0} (r : R → Signature) (s : S → Signature × Progress) (e : Fault) (q : Result S Fault)
        → IsErrAnd q (λ f. f ≡ e)
        → Answers (specified inner (name_at desc.name) (with_type desc.name.text str empty_env) sig) r (Err e)
        → Answers (infer_type_desc inner eq desc sig (progress t g)) s q
    untaken {R} {S} r s e q is h =
        passed_on (λ z. Answers (infer_type_desc inner eq desc sig (progress t g)) s z) q e is
        (subst (λ (w : Answer (Signature × Progress)). Answers w s (Err e)) (sym rest_is)
        (failed {R = Unit {0}} (specified inner (name_at desc.name) (with_type desc.name.text str empty_env)
        (also_bound (name ∷ []) sig)) (λ z. gives (z, after_names 1 (progress mid g))) (λ u. sig) s e
        (also_refused {R = R} {S = Unit {0}} inner (name_at desc.name) (with_type desc.name.text str empty_env) sig (name ∷ []) r
        (λ u. sig) e h)))

    pub specified_type : (h : Graph) (more last : Signature) → h ≡ graphs.with_name name g
        → specified inner (name_at desc.name) (with_type desc.name.text str empty_env) sig ≡ gives more
        → also_bound (name ∷ []) more ≡ last
        → infer_type_desc inner eq desc sig (progress t g) ≡ gives (last, progress mid h)
    specified_type h more last made f l =
        rest_is
        ∙ ap (λ (m : Answer Signature). m >>= λ z. gives (z, after_names 1 (progress mid g)))
        (also_made inner (name_at desc.name) (with_type desc.name.text str empty_env) sig (name ∷ []) more f)
        ∙ ap₂ (λ (z : Signature) (p : Progress). gives (z, p)) l
        (ap (λ n. (let st : Progress = record { types = state mid; names = n } in st))
        (sym (length-append g.made (name ∷ [])))
        ∙ ap (progress mid) (sym made))

-- ---- one after another

in_steps : {A B C : Type 0} (m : Answer A) (f : A → B) (h : B → Answer C)
    → (m >>= λ x. h (f x)) ≡ ((m >>= λ x. gives (f x)) >>= h)
in_steps None f h = refl
in_steps (Some (Err d)) f h = refl
in_steps (Some (Ok x)) f h = refl

two_steps : {A B C P : Type 0} (m : Answer A) (f : A → Answer B) (a : A → P) (h : B × P → Answer C)
    → (m >>= λ x. f x >>= λ y. h (y, a x)) ≡ ((m >>= λ x. f x >>= λ y. gives (y, a x)) >>= h)
two_steps None f a h = refl
two_steps (Some (Err d)) f a h = refl
two_steps (Some (Ok x)) f a h = in_steps (f x) (λ y. (y, a x)) h

abbrev rest_of : Scope → Bool → List TypeDescPhrase → Signature × Progress → Answer (Signature × Progress)
rest_of inner eq descs r = infer_type_descs inner eq descs r.0 r.1

first_type : (inner : Scope) (eq : Bool) (desc : TypeDescPhrase) (left rest : List TypeDescPhrase) (sig : Signature)
    (st : Progress) → left ≡ desc ∷ rest
    → infer_type_descs inner eq left sig st ≡ (infer_type_desc inner eq desc sig st >>= rest_of inner eq rest)
first_type inner eq desc left rest sig st e =
    ap (λ xs. infer_type_descs inner eq xs sig st) e
    ∙ two_steps (listed inner desc.tyvars [] st)
    (λ r. with_name inner desc (own_name inner.home st.names (length desc.tyvars) eq) sig)
    (λ r. after_names 1 r.1) (rest_of inner eq rest)

abbrev TypesLeft : Scope → Bool → List TypeDescPhrase → Signature → Progress → List TypeDescPhrase → Signature
    → Progress → Type 0
TypesLeft inner eq descs first st left sig u =
    infer_type_descs inner eq descs first st ≡ infer_type_descs inner eq left sig u

module _ (inner : Scope) (eq : Bool) (descs left rest : List TypeDescPhrase) (desc : TypeDescPhrase)
    (first sig : Signature) (st u : Progress) (sofar : TypesLeft inner eq descs first st left sig u)
    (next : left ≡ desc ∷ rest) where
  pub types_refused : {R S : Type 0} (r : R → Signature × Progress) (s : S → Signature × Progress) (e : Fault)
      (q : Result S Fault) → IsErrAnd q (λ f. f ≡ e) → Answers (infer_type_desc inner eq desc sig u) r (Err e)
      → Answers (infer_type_descs inner eq descs first st) s q
  types_refused {R} {S} r s e q is h =
      passed_on (λ z. Answers (infer_type_descs inner eq descs first st) s z) q e is
      (subst (λ (w : Answer (Signature × Progress)). Answers w s (Err e))
      (sym (sofar ∙ first_type inner eq desc left rest sig u next))
      (failed (infer_type_desc inner eq desc sig u) (rest_of inner eq rest) r s e h))

  pub types_more : (more : Signature) (v : Progress) → infer_type_desc inner eq desc sig u ≡ gives (more, v)
      → TypesLeft inner eq descs first st rest more v
  types_more more v k =
      sofar ∙ first_type inner eq desc left rest sig u next
      ∙ ap (λ (m : Answer (Signature × Progress)). m >>= rest_of inner eq rest) k

pub types_all : (inner : Scope) (eq : Bool) (descs left : List TypeDescPhrase) (first sig : Signature) (st u : Progress)
    → TypesLeft inner eq descs first st left sig u → left ≡ []
    → infer_type_descs inner eq descs first st ≡ gives (sig, u)
types_all inner eq descs left first sig st u sofar e = sofar ∙ ap (λ xs. infer_type_descs inner eq xs sig u) e
