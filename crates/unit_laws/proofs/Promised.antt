-- The laws, as the public functions of this crate state them.
use Rattle.std.proofs.Common.{◌≡◌, ℕ, ◌≤◌, List, [], ◌∷◌, ◌++◌, map, refl, sym, ap, subst, arith, Bool, true, false, ◌||◌, ◌&&◌, not, eqb}
use Rattle.std.specs.Prelude.{ltb}
use Rattle.std.proofs.lemmas.Bool.{lt-ltb, ltb-true}
use Rattle.semantic_objects.proofs.Same.{text_is}
use Rattle.semantic_objects.specs.declared.name.Owner.{Owner}
use Rattle.semantic_objects.specs.declared.name.Owner.TheVariants as owner
use Rattle.semantic_objects.specs.declared.name.TyName.{TyName}
use Rattle.semantic_objects.specs.declared.symbol.Symbol.{Symbol}
use Rattle.semantic_objects.specs.declared.symbol.Symbol.TheVariants as symbol
use Rattle.semantic_objects.specs.Environments.{Env, Signature, Functor, Top}
use Rattle.unification.proofs.Walking.{either_way, or_left, or_right, or_either, and_left, and_right, and_both}
use Rattle.realisation.specs.Names.{is_listed}
use Rattle.static_semantics.specs.Inferring.{Progress}
use Rattle.static_semantics.specs.DatatypeInference.{same_as_home}
use Rattle.static_semantics.specs.Holding.{AllItems}
use Rattle.static_semantics.proofs.Holding.{rows_more}
use Rattle.static_semantics.proofs.TypesGrow.{given_more}
use Rattle.inference_laws.specs.Nodes.{Nodes, EnvOf, Admits, Makes, IsReadyFor, below_number}
use Rattle.inference_laws.specs.WellFormed.{well_formed, AreKnown}
use Rattle.inference_laws.specs.Promises.{GivesWellFormed}
use Rattle.inference_laws.proofs.Both.{ty_both, env_both}
use Rattle.inference_laws.proofs.WellFormed.{below_admits, gives_well_formed}
use Rattle.unit_semantics.specs.UnitPhrases.{ModulePhrase, ModuleBinds, TopPhrase, read_module, read_binds, read_top, read_unit}
use Rattle.unit_semantics.specs.StructureInference.{core_scope}
use Rattle.unit_semantics.specs.UnitInference.{with_given, infer_unit}
use Rattle.unit_laws.specs.Spelling.{ModuleSpelt, ModuleBindsSpelt, TopSpelt}
use Rattle.unit_laws.specs.Parts.{allowing, SignatureOf, FunctorOf, TopOf, IsOfTop}
use Rattle.unit_laws.specs.Promises.{IsOfUnit, UnitsMakeOfGiven, UnitsKeepWellFormed}
use Rattle.unit_laws.proofs.ModulesMade.{core_of}
use Rattle.unit_laws.proofs.UnitsMade.{tops_made}

-- ---- the option that seals changes no name and no label

module_read : (good : List ℕ → Bool) (sealing : Bool) (str : ModulePhrase) → ModuleSpelt good str
    → ModuleSpelt good (read_module sealing str)
module_read good sealing (ModulePhrase.Struct dec at) h = h
module_read good sealing (ModulePhrase.Named long at) h = h
module_read good false (ModulePhrase.Transparent str sig at) h = h
module_read good true (ModulePhrase.Transparent str sig at) h = h
module_read good sealing (ModulePhrase.Opaque str sig at) h = h
module_read good sealing (ModulePhrase.Functor name argument at) h = h
module_read good sealing (ModulePhrase.Within dec body at) h = h

binds_read : (good : List ℕ → Bool) (sealing : Bool) (binds : ModuleBinds) → ModuleBindsSpelt good binds
    → ModuleBindsSpelt good (read_binds sealing binds)
binds_read good sealing ModuleBinds.EndOfBinds h = tt
binds_read good sealing (ModuleBinds.Bind name str rest) h =
    (module_read good sealing str h.0, binds_read good sealing rest h.1)

top_read : (good : List ℕ → Bool) (sealing : Bool) (top : TopPhrase) → TopSpelt good top
    → TopSpelt good (read_top sealing top)
top_read good sealing (TopPhrase.Structures binds at) h = binds_read good sealing binds h
top_read good sealing (TopPhrase.Signatures binds at) h = h
top_read good sealing (TopPhrase.Functors binds at) h = h
top_read good sealing (TopPhrase.Funsigs binds at) h = h

pub unit_read : (good : List ℕ → Bool) (sealing : Bool) (tops : List TopPhrase) → AllItems (TopSpelt good) tops
    → AllItems (TopSpelt good) (read_unit sealing tops)
unit_read good sealing [] h = tt
unit_read good sealing (top ∷ tops) h = (top_read good sealing top h.0, unit_read good sealing tops h.1)

-- ---- what is made of some nodes is made of more

abbrev pub More : Nodes → Nodes → Type 0
More q r = (c : Symbol) (parts : ℕ) → q c parts ≡ true → r c parts ≡ true

env_more : (q r : Nodes) → More q r → (env : Env) → EnvOf q env → EnvOf r env
env_more q r f env h = env_both q q r (λ c parts i j. f c parts i) env h h

more_allowing : (names : List TyName) (q r : Nodes) → More q r → More (allowing names q) (allowing names r)
more_allowing names q r f symbol.Arrow parts h = f symbol.Arrow parts h
more_allowing names q r f (symbol.Record labels) parts h = f (symbol.Record labels) parts h
more_allowing names q r f (symbol.Name name) parts h =
    or_either (is_listed name names && eqb parts name.arity) (q (symbol.Name name) parts) h
    (λ e. or_left (is_listed name names && eqb parts name.arity) (r (symbol.Name name) parts) e)
    (λ e. or_right (is_listed name names && eqb parts name.arity) (r (symbol.Name name) parts)
    (f (symbol.Name name) parts e))

pub signature_more : (q r : Nodes) → More q r → (sig : Signature) → SignatureOf q sig → SignatureOf r sig
signature_more q r f sig h = record {
  bound = h.bound;
  env = env_more (allowing sig.bound q) (allowing sig.bound r) (more_allowing sig.bound q r f) sig.env h.env;
}

pub functor_more : (q r : Nodes) → More q r → (fun : Functor) → FunctorOf q fun → FunctorOf r fun
functor_more q r f fun h = record {
  bound = h.bound;
  param = env_more _ _ (more_allowing fun.bound q r f) fun.param h.param;
  further = h.further;
  result = env_more _ _ (more_allowing (fun.bound ++ fun.further) q r f) fun.result h.result;
}

pub top_more : (q r : Nodes) → More q r → (top : Top) → TopOf q top → TopOf r top
top_more q r f top h = record {
  env = env_more q r f top.env h.env;
  signatures = rows_more (SignatureOf q) (SignatureOf r) top.signatures (signature_more q r f) h.signatures;
  functors = rows_more (FunctorOf q) (FunctorOf r) top.functors (functor_more q r f) h.functors;
  funsigs = rows_more (FunctorOf q) (FunctorOf r) top.funsigs (functor_more q r f) h.funsigs;
}

pub is_more : (good : List ℕ → Bool) (q r : Nodes) (top : Top) (st : Progress) → More q r → Admits good r
    → IsOfTop good top st q → IsOfTop good top st r
is_more good q r top st f a h = record {
  admits = a;
  scope = top_more q r f top h.scope;
  state = λ n. ty_both q q r (λ c parts i j. f c parts i) (st.types.stands n) (h.state n) (h.state n);
}

-- ---- names below a number

below_more : (home : List ℕ) (k m : ℕ) → k ≤ m → More (below_number home k) (below_number home m)
below_more home k m l symbol.Arrow parts e = refl
below_more home k m l (symbol.Record labels) parts e = refl
below_more home k m l (symbol.Name name) parts e =
    or_either (not (same_as_home home name.owner)) (ltb name.number k) e
    (λ i. or_left (not (same_as_home home name.owner)) (ltb name.number m) i)
    (λ i. or_right (not (same_as_home home name.owner)) (ltb name.number m) (lt-ltb name.number m
    (let j : Rattle.std.proofs.Common.suc name.number ≤ k = ltb-true name.number k i in omega (arith, j, l))))

pub ready_below : (good : List ℕ → Bool) (home : List ℕ) (top : Top) (st : Progress)
    → IsOfTop good top st (below_number home st.names) → IsReadyFor home (IsOfTop good top st) st.names
ready_below good home top st h m l = is_more good (below_number home st.names) (below_number home m) top st
    (below_more home st.names m l) (below_admits good home m) h

pub units_make_of_given : UnitsMakeOfGiven
units_make_of_given = record {
  all = λ good depth home basis given sealing tops st p h.
      given_more _ (λ r. Makes home (IsOfUnit good basis given st) st r.1 (λ q. TopOf q r.0))
      (infer_unit depth home basis given sealing tops st)
      (λ r k. Rattle.inference_laws.proofs.Making.less k (λ q i j. j.1))
      (tops_made good depth home (with_given basis given) (read_unit sealing tops) st (unit_read good sealing tops p)
      (ready_below good home (with_given basis given) st h));
}

-- ---- well-formed nodes

owner_is : (home : List ℕ) (o : Owner) → same_as_home home o ≡ true → o ≡ owner.«Unit» home
owner_is home owner.Basis h = absurd (cc)
owner_is home (owner.«Unit» unit) h = ap owner.«Unit» (sym (text_is home unit h))
owner_is home owner.Bound h = absurd (cc)

pub known_below : (good : List ℕ → Bool) (home : List ℕ) (next : ℕ) (known : TyName → Bool) → AreKnown home next known
    → More (well_formed good known) (below_number home next)
known_below good home next known h symbol.Arrow parts e = refl
known_below good home next known h (symbol.Record labels) parts e = refl
known_below good home next known h (symbol.Name name) parts e = either_way (same_as_home home name.owner)
    (λ i. or_right (not (same_as_home home name.owner)) (ltb name.number next)
    (lt-ltb name.number next
    (h.below name (and_right (eqb parts name.arity) (known name) e) (owner_is home name.owner i))))
    (λ i. or_left (not (same_as_home home name.owner)) (ltb name.number next) (ap not i))

known_more : (good : List ℕ → Bool) (known later : TyName → Bool) → ((n : TyName) → known n ≡ true → later n ≡ true)
    → More (well_formed good known) (well_formed good later)
known_more good known later f symbol.Arrow parts h = h
known_more good known later f (symbol.Record labels) parts h = h
known_more good known later f (symbol.Name name) parts h = and_both (eqb parts name.arity) (later name)
    (and_left (eqb parts name.arity) (known name) h) (f name (and_right (eqb parts name.arity) (known name) h))

-- what is made of what is given, where that is well formed
made_well_formed : (good : List ℕ → Bool) (known : TyName → Bool) (home : List ℕ) (top : Top) (st : Progress)
    (r : Top × Progress) → AreKnown home st.names known → IsOfTop good top st (well_formed good known)
    → Makes home (IsOfTop good top st) st r.1 (λ q. TopOf q r.0)
    → GivesWellFormed good home known st r.1 (λ q. TopOf q r.0)
made_well_formed good known home top st r a h k =
    let g : GivesWellFormed good home known st r.1 (λ q. TopOf q top → TopOf q r.0) =
    gives_well_formed good known (core_scope home top) st r.1 (λ q. TopOf q top → TopOf q r.0)
    (a, core_of good home (well_formed good known) top st h)
    (record {
      names = k.names;
      numbered = k.numbered;
      holds = λ q i n t. k.holds q (record { admits = i.scope.admits; scope = t; state = i.state }) n;
    }) in
    record {
      rises = g.rises;
      later = g.later;
      more = g.more;
      of = g.of (top_more (well_formed good known) (well_formed good g.later) (known_more good known g.later
          g.more.kept)
          top h.scope);
    }

pub units_keep_well_formed : UnitsKeepWellFormed
units_keep_well_formed = record {
  all = λ good known depth home basis given sealing tops st p a h.
      given_more (λ r. Makes home (IsOfUnit good basis given st) st r.1 (λ q. TopOf q r.0))
      (λ r. GivesWellFormed good home known st r.1 (λ q. TopOf q r.0))
      (infer_unit depth home basis given sealing tops st)
      (λ r k. made_well_formed good known home (with_given basis given) st r a h k)
      (units_make_of_given.all good depth home basis given sealing tops st p
      (is_more good (well_formed good known) (below_number home st.names) (with_given basis given) st
      (known_below good home st.names known a) (below_admits good home st.names) h));
}
