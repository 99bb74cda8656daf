-- What calls leave of a graph, one after another.
use Rattle.std.proofs.Common.{◌≡◌, refl, sym, ◌∙◌, subst}
use Rattle.std.specs.Prelude.{Result, Ok, Err, IfOk, OnErr}
use Rattle.semantic_objects.specs.Environments.{Signature}
use Rattle.sml_modules.specs.declared.id.SigId.{SigId}
use Rattle.sml_modules.specs.Graphs.{Graph, Keeps, GivesSignature}
use Rattle.structure_matching.specs.Matches.{StaysGraph}
use Rattle.module_rules.specs.Results.{Grows}

keeps_same : (g : Graph) → Keeps g g
keeps_same g = record {
  has_env = λ id h. h;
  env = λ id h. refl;
  has_signature = λ id h. h;
  signature = λ id h. refl;
  has_functor = λ id h. h;
  functor = λ id h. refl;
  has_top = λ id h. h;
  top = λ id h. refl;
}

pub keeps_both : (g h k : Graph) → Keeps g h → Keeps h k → Keeps g k
keeps_both g h k a b = record {
  has_env = λ id t. b.has_env id (a.has_env id t);
  env = λ id t. b.env id (a.has_env id t) ∙ a.env id t;
  has_signature = λ id t. b.has_signature id (a.has_signature id t);
  signature = λ id t. b.signature id (a.has_signature id t) ∙ a.signature id t;
  has_functor = λ id t. b.has_functor id (a.has_functor id t);
  functor = λ id t. b.functor id (a.has_functor id t) ∙ a.functor id t;
  has_top = λ id t. b.has_top id (a.has_top id t);
  top = λ id t. b.top id (a.has_top id t) ∙ a.top id t;
}

pub stays_none : (g : Graph) → StaysGraph g g
stays_none g = record { keeps = keeps_same g; home = refl; made = refl }

pub stays_same : (g h : Graph) → h ≡ g → StaysGraph g h
stays_same g h e = subst (StaysGraph g) (sym e) (stays_none g)

pub stays_behind : (g h k : Graph) (sig : Signature) (id : SigId) → GivesSignature g h sig id → StaysGraph h k
    → StaysGraph g k
stays_behind g h k sig id a b = record {
  keeps = keeps_both g h k a.keeps b.keeps;
  home = b.home ∙ a.home;
  made = b.made ∙ a.made;
}

pub grows_none : (g : Graph) → Grows g g
grows_none g = record { keeps = keeps_same g; home = refl }

pub grows_stays : (g h : Graph) → StaysGraph g h → Grows g h
grows_stays g h a = record { keeps = a.keeps; home = a.home }

pub grows_behind : (g h k : Graph) → StaysGraph g h → Grows h k → Grows g k
grows_behind g h k a b = record { keeps = keeps_both g h k a.keeps b.keeps; home = b.home ∙ a.home }

-- ---- results

pub if_ok : {A E : Type 0} (r : Result A E) (P Q : A → Type 0) → ((x : A) → P x → Q x) → IfOk r P → IfOk r Q
if_ok (Ok x) P Q f h = f x h
if_ok (Err e) P Q f h = tt

pub on_err : {A E P Q : Type 0} (r : Result A E) → (P → Q) → OnErr r P → OnErr r Q
on_err (Ok x) f h = tt
on_err (Err e) f h = f h
