-- The laws, as the public functions of this crate state them.
use Rattle.std.proofs.Common.{ℕ, List, Bool}
use Rattle.semantic_objects.specs.declared.name.TyName.{TyName}
use Rattle.static_semantics.specs.Inferring.{Progress, Scope, Answer}
use Rattle.static_semantics.specs.DatatypeInference.{datatypes_of}
use Rattle.static_semantics.specs.CoreInference.{infer_exp, infer_match, infer_dec}
use Rattle.static_semantics.specs.Holding.{Given}
use Rattle.static_semantics.proofs.TypesGrow.{given_more}
use Rattle.inference_laws.specs.Nodes.{Nodes, IsOf, ExpOf, DecOf, Makes}
use Rattle.inference_laws.specs.Promises.{MakesOfGiven, KeepsWellFormed, HangsOnWhatIsSeen, KeepsNames, IsWellFormed, GivesWellFormed}
use Rattle.inference_laws.proofs.TypesMade.{ty_of}
use Rattle.inference_laws.proofs.PatternsMade.{pat_of}
use Rattle.inference_laws.proofs.DatatypesMade.{datatypes_made, exceptions_made}
use Rattle.inference_laws.proofs.CoreMade.{exp_made, match_made, dec_made}
use Rattle.inference_laws.proofs.SameTypes.{ty_same, datatypes_same}
use Rattle.inference_laws.proofs.SeenLater.{types_of_seen}
use Rattle.inference_laws.proofs.PatternsAlike.{pat_alike}
use Rattle.inference_laws.proofs.ClosingAlike.{exceptions_alike}
use Rattle.inference_laws.proofs.CoreAlike.{exp_alike, match_alike, dec_alike}
use Rattle.inference_laws.proofs.Naming.{dec_named, datatypes_named, exceptions_named}
use Rattle.inference_laws.proofs.WellFormed.{below_next, ready_below, gives_well_formed}

pub makes_of_given : MakesOfGiven
makes_of_given = record {
  ty = ty_of;
  pat = pat_of;
  exp = λ good depth sc exp st p h. exp_made good depth sc exp st p (ready_below good sc st h);
  rules = λ good depth sc rules st p h. match_made good depth sc rules st p (ready_below good sc st h);
  dec = λ good depth sc dec st p h. dec_made good depth sc dec st p (ready_below good sc st h);
  datatypes = λ good sc refused binds st p h. datatypes_made good sc refused binds st p (ready_below good sc st h);
  exceptions = exceptions_made;
}

well_formed_of : {A : Type 0} (good : List ℕ → Bool) (known : TyName → Bool) (sc : Scope) (st : Progress)
    (state : A → Progress) (Of : A → Nodes → Type 0) (m : Answer A) → IsWellFormed good known sc st
    → Given (λ x. Makes sc.home (IsOf good sc st) st (state x) (Of x)) m
    → Given (λ x. GivesWellFormed good sc.home known st (state x) (Of x)) m
well_formed_of good known sc st state Of m h k =
    given_more (λ x. Makes sc.home (IsOf good sc st) st (state x) (Of x))
    (λ x. GivesWellFormed good sc.home known st (state x) (Of x)) m
    (λ x l. gives_well_formed good known sc st (state x) (Of x) h l) k

pub keeps_well_formed : KeepsWellFormed
keeps_well_formed = record {
  exp = λ good known depth sc exp st p h. well_formed_of good known sc st (λ r. r.1) ExpOf (infer_exp depth sc exp st) h
      (makes_of_given.exp good depth sc exp st p (below_next good known sc st h));
  rules = λ good known depth sc rules st p h. well_formed_of good known sc st (λ r. r.1) ExpOf
      (infer_match depth sc rules st) h (makes_of_given.rules good depth sc rules st p (below_next good known sc st h));
  dec = λ good known depth sc dec st p h. well_formed_of good known sc st (λ r. r.1) DecOf (infer_dec depth sc dec st) h
      (makes_of_given.dec good depth sc dec st p (below_next good known sc st h));
  datatypes = λ good known sc refused binds st p h. well_formed_of good known sc st (λ r. r.1) DecOf
      (datatypes_of sc refused binds st) h
      (makes_of_given.datatypes good sc refused binds st p (below_next good known sc st h));
}

pub hangs_on_what_is_seen : HangsOnWhatIsSeen
hangs_on_what_is_seen = record {
  ty = λ sc f s ty h. ty_same sc f ty (types_of_seen s sc.env f h);
  pat = pat_alike;
  exp = exp_alike;
  rules = match_alike;
  dec = dec_alike;
  datatypes = λ sc f s refused binds st h. datatypes_same sc f refused binds st (types_of_seen s sc.env f h);
  exceptions = exceptions_alike;
}

pub keeps_names : KeepsNames
keeps_names = record { dec = dec_named; datatypes = datatypes_named; exceptions = exceptions_named }
