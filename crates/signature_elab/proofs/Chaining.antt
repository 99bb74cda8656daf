-- Signature expressions one in another: what inference gives, from what calls answer of the parts.
use Rattle.std.proofs.Common.{◌≡◌, ℕ, refl, sym, ap, ap₂, ◌∙◌, subst, List, [], length, Some, None}
use Rattle.std.specs.Prelude.{Result, Ok, Err, IfOk, OnOk}
use Rattle.cm_base.specs.declared.fault.Fault.{Fault}
use Rattle.sml_trees.specs.declared.name.At.{At}
use Rattle.sml_trees.specs.declared.name.Name.{Name}
use Rattle.sml_trees.specs.declared.name.LongName.{LongName}
use Rattle.semantic_objects.specs.declared.entry.ValueEntry.{ValueEntry}
use Rattle.semantic_objects.specs.Tables.{Table as Named}
use Rattle.semantic_objects.specs.Environments.{Env, Signature, Top, modified_by}
use Rattle.sml_modules.specs.declared.id.TopId.{TopId}
use Rattle.sml_modules.specs.declared.parts.SigParts.{SigParts}
use Rattle.sml_modules.specs.Items.{map_rows}
use Rattle.sml_modules.specs.Graphs.{Graph, signature_of, top_at, HasSigParts, HasTop}
use Rattle.type_nodes.specs.Tables.{Table, state, type_of}
use Rattle.bare_phrases.specs.Phrases.{TyPhrase}
use Rattle.static_semantics.specs.Inferring.{Progress, Scope, under, Answer, ◌>>=◌, gives, name_at}
use Rattle.static_semantics.specs.DatatypeInference.{infer_replication}
use Rattle.core_scopes.specs.Scopes.{Bindings, seen, written_of, AreEnvs, IsScopeOf}
use Rattle.core_scopes.specs.Marks as marks
use Rattle.core_scopes.proofs.Scoping.{scope_there, fronts_go_on}
use Rattle.type_phrases.specs.Inferred.{Answers, KeepsTypes, progress, scope_in}
use Rattle.type_phrases.proofs.Keeping.{keeps_all, keeps_later}
use Rattle.type_phrases.proofs.Steps.{failed, still_refused}
use Rattle.module_semantics.specs.SigPhrases.{SigPhrase, SpecPhrase, SigBinds, SpecPhrases}
use Rattle.module_semantics.specs.SignatureNames.{empty_signature}
use Rattle.module_semantics.specs.SignatureInference.{infer_sig, infer_spec, infer_specs, infer_structure_specs, specified}
use Rattle.signature_specs.specs.declared.specified.Specified.{Specified}
use Rattle.signature_specs.specs.Specs.{env_so_far, signature_so_far, IsFrontOf}
use Rattle.signature_specs.proofs.Fronts.{front_itself, front_later}
use Rattle.where_types.specs.Where.{infer_where, GivesParts}
use Rattle.signature_parts.specs.Ending.{structure_specified}
use Rattle.signature_parts.specs.Growing.{Grows, IsBound, IsOpenSig, IsSpecified, IsListed}
use Rattle.signature_parts.proofs.Again.{specified_again, with_nothing}
use Rattle.signature_parts.proofs.Elaborated.{grows_self, grows_then, grows_nodes, envs_kept, so_far_kept, scope_kept, names_same}
use Rattle.pattern_elab.specs.declared.own.OwnVariable.{OwnVariable}
use Rattle.module_scopes.specs.declared.defined.Defined.{Defined}
use Rattle.module_scopes.specs.declared.top.TopScope.{TopScope}
use Rattle.module_scopes.specs.Tops.{signatures_over, IsDefinedIn, IsTopScope}
use Rattle.module_scopes.proofs.Tops.{tops_stay}
use Rattle.signature_elab.specs.Phrases.{infer_added, infer_replicated, infer_structure, signatures_seen, IsOwn, IsReadyIn, KeepsNames}

-- ---- steps of inference

abbrev told : Signature → Progress → Signature × Progress
told sig st = (sig, st)

abbrev known_with : Answer Signature → Progress → Answer (Signature × Progress)
known_with m st = m >>= λ with. gives (told with st)

answers_go : {A B Q : Type 0} (want : Answer A) (x : A) (k : A → Answer B) (told : Q → B) (r : Result Q Fault)
    → want ≡ gives x → Answers (k x) told r → Answers (want >>= k) told r
answers_go want x k told r h l = subst (λ m. Answers (m >>= k) told r) (sym h) l

-- with what is known then
pub answers_with : {P : Type 0} (m : Answer Signature) (st : Progress) (read : P → Signature) (r : Result P Fault)
    → Answers m read r → Answers (known_with m st) (λ (done : P). told (read done) st) r
answers_with m st read (Ok done) h = ap (λ (n : Answer Signature). known_with n st) h
answers_with m st read (Err e) h =
    failed m (λ with. gives (told with st)) read (λ done. told (read done) st) e h

-- .. where the table has more types, and knows what it knew
pub answers_making : {P : Type 0} (g : Graph) (t u : Table) → state u ≡ state t → (m : Answer Signature)
    (read : P → Signature) (r : Result P Fault) → Answers m read r
    → Answers (known_with m (progress t g)) (λ (done : P). told (read done) (progress u g)) r
answers_making {P} g t u e m read r h =
    subst (λ (st : Progress). Answers (known_with m (progress t g)) (λ (done : P). told (read done) st) r)
    (sym (ap (λ s. (let st : Progress = record { types = s; names = length g.made } in st)) e))
    (answers_with m (progress t g) read r h)

on_ok : {R : Type 0} {P : Type 0} (r : Result R Fault) → P → OnOk r P
on_ok (Ok x) h = h
on_ok (Err e) h = tt

-- ---- signature expressions

module _ {V : Type 0} {g h : Graph} {t u : Table} {old new : Bindings V} where
  -- the same phrase
  pub as_sig : (sigs : Named Signature) {p q : SigPhrase} {r : Result SigParts Fault} → p ≡ q
      → IsOpenSig g h t u old new (λ sc st. infer_sig sigs sc q st) r
      → IsOpenSig g h t u old new (λ sc st. infer_sig sigs sc p st) r
  as_sig sigs {p} {q} {r} e k =
      subst (λ z. IsOpenSig g h t u old new (λ sc st. infer_sig sigs sc z st) r) (sym e) k

  pub as_spec : (sigs : Named Signature) {past made : Specified} {p q : SpecPhrase} {r : Result (Unit {0}) Fault} → p ≡ q
      → IsSpecified g h t u past made old new (λ sc so st. infer_spec sigs sc q so st) r
      → IsSpecified g h t u past made old new (λ sc so st. infer_spec sigs sc p so st) r
  as_spec sigs {past} {made} {p} {q} {r} e k =
      subst (λ z. IsSpecified g h t u past made old new (λ sc so st. infer_spec sigs sc z so st) r) (sym e) k

-- nothing is specified yet
pub nothing_specified : {V : Type 0} (g : Graph) (made : Specified) (sc : Bindings V)
    → signature_so_far g made ≡ empty_signature → IsOwn g made sc
nothing_specified g made sc e = λ read.
    ap (λ (sig : Signature). modified_by (seen g read sc) sig.env) e ∙ with_nothing (seen g read sc)

module _ {V : Type 0} {g h : Graph} {t u : Table} {past made : Specified} {old mid : Bindings V} (sigs : Named Signature)
    (spec : SpecPhrase) (at : At) (nothing : signature_so_far g past ≡ empty_signature) where
  -- `sig .. end`
  pub sig_fails : {new : Bindings V} {e : Fault}
      → IsSpecified g h t u past made old mid (λ sc so st. infer_spec sigs sc spec so st) (Err e)
      → IsOpenSig g h t u old new (λ sc st. infer_sig sigs sc (SigPhrase.Sig spec at) st) (Err e)
  sig_fails {new} {e} k = record {
    infers = λ w read.
        still_refused (infer_spec sigs (scope_in g w read old) spec empty_signature (progress t g))
        (λ (done : Unit {0}). (signature_so_far h made, progress u h))
        (λ (parts : SigParts). (signature_of h parts, progress u h)) e
        (subst (λ (so : Signature). Answers (infer_spec sigs (scope_in g w read old) spec so (progress t g))
        (λ (done : Unit {0}). (signature_so_far h made, progress u h)) (Err e)) nothing (k.infers w read));
    there = tt;
    keeps = k.keeps;
    graph = k.graph;
    scope = tt;
  }

  pub sig_ends : {i : Graph} {new : Bindings V} {parts : SigParts}
      → IsSpecified g h t u past made old mid (λ sc so st. infer_spec sigs sc spec so st) (Ok tt)
      → GivesParts h i (signature_so_far h made) parts → new ≡ old
      → IsOpenSig g i t u old new (λ sc st. infer_sig sigs sc (SigPhrase.Sig spec at) st) (Ok parts)
  sig_ends {i} {new} {parts} k made_by e = record {
    infers = λ w read.
        ap (λ (so : Signature). infer_spec sigs (scope_in g w read old) spec so (progress t g)) (sym nothing)
        ∙ k.infers w read
        ∙ ap₂ (λ (sig : Signature) (st : Progress). gives (sig, st)) (sym made_by.is)
        (sym (names_same h i u made_by.grows.made));
    there = made_by.there;
    keeps = k.keeps;
    graph = grows_then k.graph (grows_nodes made_by.grows);
    scope = e;
  }

-- a name
pub sig_used : {V : Type 0} {g h : Graph} {t : Table} {old : Bindings V} (sigs : Named Signature) (name : Name) (at : At)
    (r : Result SigParts Fault)
    → ((inner : Scope) (w : Table) → inner.home ≡ g.home
    → Answers (infer_sig sigs inner (SigPhrase.Named name at) (progress w g))
    (λ parts. (signature_of h parts, progress w h)) r)
    → IfOk r (HasSigParts h) → Grows g h
    → IsOpenSig g h t t old old (λ sc st. infer_sig sigs sc (SigPhrase.Named name at) st) r
sig_used {V} {g} {h} {t} {old} sigs name at r infers there grows = record {
  infers = λ w read. infers (scope_in g w read old) t refl;
  there = there;
  keeps = keeps_all t;
  graph = grows;
  scope = on_ok r refl;
}

-- `where type`
module _ {V : Type 0} {g h : Graph} {t u : Table} {old mid : Bindings V} (sigs : Named Signature) (sig : SigPhrase)
    (tyvars : List Name) (long : LongName) (ty : TyPhrase) (at : At) where
  pub where_fails : {new : Bindings V} {e : Fault} → IsOpenSig g h t u old mid (λ sc st. infer_sig sigs sc sig st) (Err e)
      → IsOpenSig g h t u old new (λ sc st. infer_sig sigs sc (SigPhrase.Where sig tyvars long ty at) st) (Err e)
  where_fails {new} {e} k = record {
    infers = λ w read.
        failed (infer_sig sigs (scope_in g w read old) sig (progress t g))
        (λ r. infer_where (scope_in g w read old) tyvars long ty at r.0 r.1)
        (λ (parts : SigParts). (signature_of h parts, progress u h))
        (λ (parts : SigParts). (signature_of h parts, progress u h)) e (k.infers w read);
    there = tt;
    keeps = k.keeps;
    graph = k.graph;
    scope = tt;
  }

  pub where_goes : {i : Graph} {v : Table} {new : Bindings V} {open_sig : SigParts} {r : Result SigParts Fault}
      → IsScopeOf g old → IsOpenSig g h t u old mid (λ sc st. infer_sig sigs sc sig st) (Ok open_sig)
      → ((w : Table) (read : V → ValueEntry)
      → Answers (infer_where (scope_in h w read mid) tyvars long ty at (signature_of h open_sig) (progress u h))
      (λ made. (signature_of i made, progress v i)) r)
      → IfOk r (HasSigParts i) → KeepsTypes u v → Grows h i → new ≡ mid
      → IsOpenSig g i t v old new (λ sc st. infer_sig sigs sc (SigPhrase.Where sig tyvars long ty at) st) r
  where_goes {i} {v} {new} {open_sig} {r} there k infers has keeps grows e = record {
    infers = λ w read.
        answers_go (infer_sig sigs (scope_in g w read old) sig (progress t g))
        (signature_of h open_sig, progress u h)
        (λ q. infer_where (scope_in g w read old) tyvars long ty at q.0 q.1)
        (λ (made : SigParts). (signature_of i made, progress v i)) r (k.infers w read)
        (subst (λ (sc : Scope). Answers (infer_where sc tyvars long ty at (signature_of h open_sig) (progress u h))
        (λ (made : SigParts). (signature_of i made, progress v i)) r)
        (ap (scope_in h w read) k.scope ∙ scope_kept old w read k.graph there) (infers w read));
    there = has;
    keeps = keeps_later t u v k.keeps keeps;
    graph = grows_then k.graph grows;
    scope = on_ok r (e ∙ k.scope);
  }

-- ---- a signature whose entries are added

module _ {V : Type 0} {g h : Graph} {t u : Table} {past : Specified} {old mid : Bindings V} (sigs : Named Signature)
    (sig : SigPhrase) (add : Scope → Signature → Signature → Answer Signature) where
  pub added_fails : {new : Bindings V} {e : Fault} → IsOpenSig g h t u old mid (λ sc st. infer_sig sigs sc sig st) (Err e)
      → IsListed g h t u past past old new (λ sc so st. infer_added sigs add sc sig so st) (Err e)
  added_fails {new} {e} k = record {
    infers = λ w read.
        failed (infer_sig sigs (scope_in g w read old) sig (progress t g))
        (λ r. add (scope_in g w read old) r.0 (signature_so_far g past) >>= λ with. gives (with, r.1))
        (λ (parts : SigParts). (signature_of h parts, progress u h))
        (λ (done : Unit {0}). (signature_so_far h past, progress u h)) e (k.infers w read);
    keeps = k.keeps;
    graph = k.graph;
    scope = tt;
    front = tt;
    envs = tt;
  }

  pub added : {made : Specified} {open_sig : SigParts} {r : Result (Unit {0}) Fault} → IsScopeOf g old
      → AreEnvs g past.structures → IsOpenSig g h t u old mid (λ sc st. infer_sig sigs sc sig st) (Ok open_sig)
      → ((inner : Scope) → inner.home ≡ h.home
      → Answers (add inner (signature_of h open_sig) (signature_so_far h past)) (λ (done : Unit {0}). signature_so_far h made) r)
      → OnOk r (IsFrontOf past made) → (AreEnvs h past.structures → OnOk r (AreEnvs h made.structures))
      → IsListed g h t u past made old mid (λ sc so st. infer_added sigs add sc sig so st) r
  added {made} {open_sig} {r} there envs k infers front more = record {
    infers = λ w read.
        answers_go (infer_sig sigs (scope_in g w read old) sig (progress t g))
        (signature_of h open_sig, progress u h)
        (λ q. add (scope_in g w read old) q.0 (signature_so_far g past) >>= λ with. gives (with, q.1))
        (λ (done : Unit {0}). (signature_so_far h made, progress u h)) r (k.infers w read)
        (answers_with (add (scope_in g w read old) (signature_of h open_sig) (signature_so_far g past)) (progress u h)
        (λ (done : Unit {0}). signature_so_far h made) r
        (subst (λ (so : Signature). Answers (add (scope_in g w read old) (signature_of h open_sig) so)
        (λ (done : Unit {0}). signature_so_far h made) r) (so_far_kept past k.graph envs)
        (infers (scope_in g w read old) (sym k.graph.home))));
    keeps = k.keeps;
    graph = k.graph;
    scope = on_ok r k.scope;
    front = front;
    envs = more (envs_kept g h past.structures k.graph.keeps envs);
  }

-- the same binding
pub as_structure : {V : Type 0} {g h : Graph} {t u : Table} {past made : Specified} {old new : Bindings V}
    (sigs : Named Signature) {p q : Name × SigPhrase} {r : Result (Unit {0}) Fault} → p ≡ q
    → IsListed g h t u past made old new (λ sc so st. infer_structure sigs q sc so st) r
    → IsListed g h t u past made old new (λ sc so st. infer_structure sigs p sc so st) r
as_structure {V} {g} {h} {t} {u} {past} {made} {old} {new} sigs {p} {q} {r} e k =
    subst (λ z. IsListed g h t u past made old new (λ sc so st. infer_structure sigs z sc so st) r) (sym e) k

-- ---- structures, one after another

-- what was specified so far, and the structures that are left
pub record StructuresSoFar {V : Type 0} (sigs : Named Signature) (g h : Graph) (t u : Table) (past made : Specified)
    (old new : Bindings V) (binds left : SigBinds) : Type 0 where
  pub left_is : (w : Table) (read : V → ValueEntry)
      → infer_structure_specs sigs (scope_in g w read old) binds (signature_so_far g past) (progress t g)
      ≡ infer_structure_specs sigs (scope_in g w read old) left (signature_so_far h made) (progress u h)
  pub keeps : KeepsTypes t u
  pub graph : Grows g h
  pub scope : new ≡ old
  pub front : IsFrontOf past made
  pub envs : AreEnvs h made.structures

pub structures_begin : {V : Type 0} (sigs : Named Signature) (g : Graph) (t : Table) (past : Specified)
    (old : Bindings V) (binds : SigBinds) → AreEnvs g past.structures
    → StructuresSoFar sigs g g t t past past old old binds binds
structures_begin sigs g t past old binds envs = record {
  left_is = λ w read. refl;
  keeps = keeps_all t;
  graph = grows_self g;
  scope = refl;
  front = front_itself past;
  envs = envs;
}

-- two steps and a third, and the first two as one
abbrev two_steps : Answer (Signature × Progress) → (Signature → Answer Signature) → Answer (Signature × Progress)
two_steps m f = m >>= λ r. known_with (f r.0) r.1

abbrev all_steps : {C : Type 0} → Answer (Signature × Progress) → (Signature → Answer Signature)
    → (Signature → Progress → Answer C) → Answer C
all_steps m f k = m >>= λ r. f r.0 >>= λ with. k with r.1

in_steps : {C : Type 0} (m : Answer (Signature × Progress)) (f : Signature → Answer Signature)
    (k : Signature → Progress → Answer C) → all_steps m f k ≡ (two_steps m f >>= λ q. k q.0 q.1)
in_steps None f k = refl
in_steps (Some (Err d)) f k = refl
in_steps {C} (Some (Ok r)) f k = inner (f r.0)
  where
    inner : (n : Answer Signature) → (n >>= λ with. k with r.1) ≡ (known_with n r.1 >>= λ q. k q.0 q.1)
    inner None = refl
    inner (Some (Err d)) = refl
    inner (Some (Ok x)) = refl

first_structure : (sigs : Named Signature) (sc : Scope) (bind : Name × SigPhrase) (rest : SigBinds) (made : Signature)
    (st : Progress)
    → infer_structure_specs sigs sc (SigBinds.Bind bind.0 bind.1 rest) made st
    ≡ (infer_structure sigs bind sc made st >>= λ q. infer_structure_specs sigs sc rest q.0 q.1)
first_structure sigs sc bind rest made st =
    in_steps (infer_sig sigs sc bind.1 st) (λ sig. structure_specified sc bind.0 sig made)
    (λ with after. infer_structure_specs sigs sc rest with after)

module _ {V : Type 0} {sigs here : Named Signature} {g h : Graph} {t u : Table} {past made : Specified}
    {old new : Bindings V} {binds left rest : SigBinds} {bind : Name × SigPhrase}
    (s : StructuresSoFar sigs g h t u past made old new binds left) (is : left ≡ SigBinds.Bind bind.0 bind.1 rest)
    (same : here ≡ sigs) (there : IsScopeOf g old) where
  structures_at : (w : Table) (read : V → ValueEntry)
      → infer_structure_specs sigs (scope_in g w read old) binds (signature_so_far g past) (progress t g)
      ≡ (infer_structure here bind (scope_in h w read new) (signature_so_far h made) (progress u h)
      >>= λ q. infer_structure_specs sigs (scope_in g w read old) rest q.0 q.1)
  structures_at w read =
      s.left_is w read
      ∙ ap (λ z. infer_structure_specs sigs (scope_in g w read old) z (signature_so_far h made) (progress u h)) is
      ∙ first_structure sigs (scope_in g w read old) bind rest (signature_so_far h made) (progress u h)
      ∙ ap₂ (λ (z : Named Signature) (sc : Scope).
      infer_structure z bind sc (signature_so_far h made) (progress u h)
      >>= λ q. infer_structure_specs sigs (scope_in g w read old) rest q.0 q.1) (sym same)
      (sym (ap (scope_in h w read) s.scope ∙ scope_kept old w read s.graph there))

module _ {V : Type 0} {sigs here : Named Signature} {g h i : Graph} {t u v : Table} {past made more : Specified}
    {old new next : Bindings V} {binds left rest : SigBinds} {bind : Name × SigPhrase}
    (s : StructuresSoFar sigs g h t u past made old new binds left) (is : left ≡ SigBinds.Bind bind.0 bind.1 rest)
    (same : here ≡ sigs) (there : IsScopeOf g old) where
  pub structures_next : IsListed h i u v made more new next (λ sc so st. infer_structure here bind sc so st) (Ok tt)
      → StructuresSoFar sigs g i t v past more old next binds rest
  structures_next k = record {
    left_is = λ w read.
        structures_at s is same there w read
        ∙ ap (λ (m : Answer (Signature × Progress)).
        m >>= λ q. infer_structure_specs sigs (scope_in g w read old) rest q.0 q.1) (k.infers w read);
    keeps = keeps_later t u v s.keeps k.keeps;
    graph = grows_then s.graph k.graph;
    scope = k.scope ∙ s.scope;
    front = front_later past made more s.front k.front;
    envs = k.envs;
  }

  pub structures_fail : {e : Fault}
      → IsListed h i u v made more new next (λ sc so st. infer_structure here bind sc so st) (Err e)
      → IsListed g i t v past more old next (λ sc so st. infer_structure_specs sigs sc binds so st) (Err e)
  structures_fail {e} k = record {
    infers = λ w read.
        subst (λ (m : Answer (Signature × Progress)). Answers m
        (λ (done : Unit {0}). (signature_so_far i more, progress v i)) (Err e)) (sym (structures_at s is same there w read))
        (failed (infer_structure here bind (scope_in h w read new) (signature_so_far h made) (progress u h))
        (λ q. infer_structure_specs sigs (scope_in g w read old) rest q.0 q.1)
        (λ (done : Unit {0}). (signature_so_far i more, progress v i))
        (λ (done : Unit {0}). (signature_so_far i more, progress v i)) e (k.infers w read));
    keeps = keeps_later t u v s.keeps k.keeps;
    graph = grows_then s.graph k.graph;
    scope = tt;
    front = tt;
    envs = tt;
  }

pub structures_end : {V : Type 0} {sigs : Named Signature} {g h : Graph} {t u : Table} {past made : Specified}
    {old new : Bindings V} {binds left : SigBinds} → StructuresSoFar sigs g h t u past made old new binds left
    → left ≡ SigBinds.EndOfBinds
    → IsListed g h t u past made old new (λ sc so st. infer_structure_specs sigs sc binds so st) (Ok tt)
structures_end {V} {sigs} {g} {h} {t} {u} {past} {made} {old} {new} {binds} {left} s is = record {
  infers = λ w read.
      s.left_is w read
      ∙ ap (λ z. infer_structure_specs sigs (scope_in g w read old) z (signature_so_far h made) (progress u h)) is;
  keeps = s.keeps;
  graph = s.graph;
  scope = s.scope;
  front = s.front;
  envs = s.envs;
}

-- ---- specifications, one after another

-- what was specified so far, and the specifications that are left
pub record SpecsSoFar {V : Type 0} (sigs : Named Signature) (g h : Graph) (t u : Table) (past made : Specified)
    (old new : Bindings V) (specs left : SpecPhrases) : Type 0 where
  pub left_is : (w : Table) (read : V → ValueEntry)
      → infer_specs sigs (scope_in g w read old) specs (signature_so_far g past) (progress t g)
      ≡ infer_specs sigs (scope_in g w read old) left (signature_so_far h made) (progress u h)
  pub keeps : KeepsTypes t u
  pub graph : Grows g h
  pub bound : IsBound g h past made old new

pub specs_begin : {V : Type 0} (sigs : Named Signature) (g : Graph) (t : Table) (past : Specified) (old : Bindings V)
    (specs : SpecPhrases) → AreEnvs g past.structures → IsScopeOf g old → marks.IsFrontOf old old
    → SpecsSoFar sigs g g t t past past old old specs specs
specs_begin sigs g t past old specs envs there front = record {
  left_is = λ w read. refl;
  keeps = keeps_all t;
  graph = grows_self g;
  bound = record {
    front = front_itself past;
    envs = envs;
    under = λ read env k. k;
    written = refl;
    there = there;
    behind = front;
    whole = front;
  };
}

bound_then : {V : Type 0} {a b c : Graph} {p q r : Specified} {x y z : Bindings V} → IsBound a b p q x y
    → IsBound b c q r y z → IsBound a c p r x z
bound_then {V} {a} {b} {c} {p} {q} {r} {x} {y} {z} h k = record {
  front = front_later p q r h.front k.front;
  envs = k.envs;
  under = λ read env i. k.under read env (h.under read env i);
  written = k.written ∙ h.written;
  there = k.there;
  behind = fronts_go_on V x y z h.behind k.behind;
  whole = k.whole;
}

module _ {V : Type 0} {sigs : Named Signature} {g h : Graph} {t u : Table} {past made : Specified} {old new : Bindings V}
    {specs left : SpecPhrases} (s : SpecsSoFar sigs g h t u past made old new specs left) (own : IsOwn g past old) where
  specs_under : (read : V → ValueEntry) → modified_by (seen g read old) (env_so_far h made) ≡ seen h read new
  specs_under read = s.bound.under read (seen g read old) (own read)

  -- what is specified so far is in scope
  pub specs_own : IsOwn h made new
  specs_own = λ read.
      ap (λ (env : Env). modified_by env (env_so_far h made)) (sym (specs_under read))
      ∙ specified_again h made (seen g read old) ∙ specs_under read

  specs_scope : (w : Table) (read : V → ValueEntry)
      → under (env_so_far h made) (scope_in g w read old) ≡ scope_in h w read new
  specs_scope w read =
      ap₂ (λ (env : Env) (home : List ℕ).
      (let sc : Scope = record { env = env; written = map_rows (type_of w) (written_of old); home = home } in sc))
      (specs_under read) (sym s.graph.home)
      ∙ ap (λ rows. (let sc : Scope = record { env = seen h read new; written = map_rows (type_of w) rows; home = h.home } in sc))
      (sym s.bound.written)

  module _ {here : Named Signature} {rest : SpecPhrases} {spec : SpecPhrase} (is : left ≡ SpecPhrases.Next spec rest)
      (same : here ≡ sigs) where
    specs_at : (w : Table) (read : V → ValueEntry)
        → infer_specs sigs (scope_in g w read old) specs (signature_so_far g past) (progress t g)
        ≡ (infer_spec here (scope_in h w read new) spec (signature_so_far h made) (progress u h)
        >>= λ r. infer_specs sigs (scope_in g w read old) rest r.0 r.1)
    specs_at w read =
        s.left_is w read
        ∙ ap (λ z. infer_specs sigs (scope_in g w read old) z (signature_so_far h made) (progress u h)) is
        ∙ ap₂ (λ (z : Named Signature) (sc : Scope). infer_spec z sc spec (signature_so_far h made) (progress u h)
        >>= λ r. infer_specs sigs (scope_in g w read old) rest r.0 r.1) (sym same) (specs_scope w read)

  module _ {here : Named Signature} {i : Graph} {v : Table} {more : Specified} {next : Bindings V} {rest : SpecPhrases}
      {spec : SpecPhrase} (is : left ≡ SpecPhrases.Next spec rest) (same : here ≡ sigs) where
    pub specs_next : IsSpecified h i u v made more new next (λ sc so st. infer_spec here sc spec so st) (Ok tt)
        → SpecsSoFar sigs g i t v past more old next specs rest
    specs_next k = record {
      left_is = λ w read.
          specs_at is same w read
          ∙ ap (λ (m : Answer (Signature × Progress)).
          m >>= λ r. infer_specs sigs (scope_in g w read old) rest r.0 r.1) (k.infers w read);
      keeps = keeps_later t u v s.keeps k.keeps;
      graph = grows_then s.graph k.graph;
      bound = bound_then s.bound k.bound;
    }

    pub specs_fail : {e : Fault}
        → IsSpecified h i u v made more new next (λ sc so st. infer_spec here sc spec so st) (Err e)
        → IsSpecified g i t v past more old next (λ sc so st. infer_specs sigs sc specs so st) (Err e)
    specs_fail {e} k = record {
      infers = λ w read.
          subst (λ (m : Answer (Signature × Progress)). Answers m
          (λ (done : Unit {0}). (signature_so_far i more, progress v i)) (Err e)) (sym (specs_at is same w read))
          (failed (infer_spec here (scope_in h w read new) spec (signature_so_far h made) (progress u h))
          (λ r. infer_specs sigs (scope_in g w read old) rest r.0 r.1)
          (λ (done : Unit {0}). (signature_so_far i more, progress v i))
          (λ (done : Unit {0}). (signature_so_far i more, progress v i)) e (k.infers w read));
      keeps = keeps_later t u v s.keeps k.keeps;
      graph = grows_then s.graph k.graph;
      bound = tt;
    }

pub specs_end : {V : Type 0} {sigs : Named Signature} {g h : Graph} {t u : Table} {past made : Specified}
    {old new : Bindings V} {specs left : SpecPhrases} → SpecsSoFar sigs g h t u past made old new specs left
    → left ≡ SpecPhrases.EndOfSpecs
    → IsSpecified g h t u past made old new (λ sc so st. infer_specs sigs sc specs so st) (Ok tt)
specs_end {V} {sigs} {g} {h} {t} {u} {past} {made} {old} {new} {specs} {left} s is = record {
  infers = λ w read.
      s.left_is w read
      ∙ ap (λ z. infer_specs sigs (scope_in g w read old) z (signature_so_far h made) (progress u h)) is;
  keeps = s.keeps;
  graph = s.graph;
  bound = s.bound;
}

-- ---- the replication of a datatype

joined : (m : Answer Env) (f : Env → Answer Signature) (st : Progress)
    → known_with (m >>= f) st ≡ (m >>= λ x. known_with (f x) st)
joined None f st = refl
joined (Some (Err d)) f st = refl
joined (Some (Ok x)) f st = refl

pub as_replicated : {V : Type 0} {g h : Graph} {t u : Table} {past made : Specified} {old new : Bindings V}
    (sigs : Named Signature) (name : Name) (long : LongName) (at : At) {r : Result (Unit {0}) Fault}
    → IsSpecified g h t u past made old new (λ sc so st. infer_replicated sc name long so st) r
    → IsSpecified g h t u past made old new (λ sc so st. infer_spec sigs sc (SpecPhrase.Replication name long at) so st) r
as_replicated {V} {g} {h} {t} {u} {past} {made} {old} {new} sigs name long at {r} k = record {
  infers = λ w read.
      subst (λ (m : Answer (Signature × Progress)). Answers m
      (λ (done : Unit {0}). told (signature_so_far h made) (progress u h)) r)
      (joined (infer_replication (scope_in g w read old) name long)
      (λ part. specified (scope_in g w read old) (name_at name) part (signature_so_far g past)) (progress t g))
      (k.infers w read);
  keeps = k.keeps;
  graph = k.graph;
  bound = k.bound;
}

-- ---- what is asked of a scope, later

pub names_self : (top : TopScope) → KeepsNames top top
names_self top = record { given = refl; defined = refl }

pub names_then : {a b c : TopScope} → KeepsNames a b → KeepsNames b c → KeepsNames a c
names_then h k = record { given = k.given ∙ h.given; defined = k.defined ∙ h.defined }

-- only what phrases of the core see is another
pub names_core : (top : TopScope) (core : Bindings OwnVariable) → KeepsNames top (record top { core = core })
names_core top core = record { given = refl; defined = refl }

module _ {g h : Graph} {old new : TopScope} (k : Grows g h) (r : IsTopScope g old) (n : KeepsNames old new) where
  pub signatures_kept : signatures_seen h new ≡ signatures_seen g old
  signatures_kept =
      ap₂ (λ (defined : Defined) (given : TopId). signatures_over h defined.signatures (top_at h given).signatures)
      n.defined n.given
      ∙ ap (λ (top : Top). top.signatures) (tops_stay.seen g h old k.keeps r)

  pub top_later : IsScopeOf h new.core → written_of new.core ≡ written_of old.core → IsTopScope h new
  top_later there e = record {
    core = there;
    written = e ∙ r.written;
    given = subst (HasTop h) (sym n.given) (k.keeps.has_top old.given r.given);
    defined = subst (IsDefinedIn h) (sym n.defined) (tops_stay.of g h old.defined k.keeps r.defined);
  }

  pub top_same : new.core ≡ old.core → IsTopScope h new
  top_same e =
      top_later (subst (IsScopeOf h) (sym e) (scope_there g h k.keeps old.core r.core))
      (ap (λ (core : Bindings OwnVariable). written_of core) e)

-- what was specified so far, and the structures that are left, with the names that are in scope
pub record StructuresIn (sigs : Named Signature) (g h : Graph) (t u : Table) (past made : Specified) (old new : TopScope)
    (binds left : SigBinds) : Type 0 where
  pub listed : StructuresSoFar sigs g h t u past made old.core new.core binds left
  pub names : KeepsNames old new

-- .. and the specifications that are left
pub record SpecsIn (sigs : Named Signature) (g h : Graph) (t u : Table) (past made : Specified) (old new : TopScope)
    (specs left : SpecPhrases) : Type 0 where
  pub listed : SpecsSoFar sigs g h t u past made old.core new.core specs left
  pub names : KeepsNames old new

pub structures_ready : {sigs : Named Signature} {g h : Graph} {t u : Table} {past made : Specified} {old new : TopScope}
    {binds left : SigBinds} → StructuresIn sigs g h t u past made old new binds left → IsTopScope g old
    → IsTopScope h new
structures_ready s r = top_same s.listed.graph r s.names s.listed.scope

pub specs_ready : {sigs : Named Signature} {g h : Graph} {t u : Table} {past made : Specified} {old new : TopScope}
    {specs left : SpecPhrases} → SpecsIn sigs g h t u past made old new specs left → IsReadyIn g past old
    → IsReadyIn h made new
specs_ready s r = record {
  ready = top_later s.listed.graph r.ready s.names s.listed.bound.there s.listed.bound.written;
  envs = s.listed.bound.envs;
  own = specs_own s.listed r.own;
}

-- before the first specification
pub first_ready : {g : Graph} {top : TopScope} (made : Specified) → signature_so_far g made ≡ empty_signature
    → made.structures ≡ [] → IsTopScope g top → IsReadyIn g made top
first_ready {g} {top} made e none r = record {
  ready = r;
  envs = subst (AreEnvs g) (sym none) tt;
  own = nothing_specified g made top.core e;
}
