-- The laws of `val`, as the public functions of this crate state them.
use Rattle.static_semantics.proofs.ByAge.{closes_by_age}
use Rattle.static_semantics.proofs.CoreGrow.{ready_bound, ready_written, own_grows, exp_grows, match_grows, dec_grows}
use Rattle.static_semantics.proofs.DatatypesGrow.{ready_under}
use Rattle.static_semantics.proofs.Growing.{ready_later, unify_grows}
use Rattle.static_semantics.proofs.PatternsGrow.{pat_grows}
use Rattle.static_semantics.proofs.TypesGrow.{given_more, ty_grows}
use Rattle.static_semantics.specs.Inferring.{unify_at}
use Rattle.static_semantics.specs.PatternInference.{infer_pat}
use Rattle.static_semantics.specs.CoreInference.{own_variables, infer_exp, infer_match, infer_dec}
use Rattle.closing_laws.specs.Promises.{Any, StaysOfState, BindsNamesOnce, EndsByVariables}
use Rattle.closing_laws.proofs.Rows.{ended}
use Rattle.closing_laws.proofs.Names.{pat_once, groups_more}

pub stays_of_state : StaysOfState
stays_of_state = record {
  val = closes_by_age;
  later = ready_later Any;
  ty = λ sc ty st h. ty_grows Any st.types sc ty h.scope;
  unified = λ depth sc inner at a b st h k l. given_more _ _ (unify_at depth inner at a b st)
      (λ u g. (ready_later Any sc st u h g, g)) (unify_grows Any depth inner at a b st h.fit k l);
  pat = λ depth sc pat bound st h k. given_more _ _ (infer_pat depth sc pat bound st)
      (λ r g. (
        ready_later Any sc st r.2 h g.0,
        ready_bound Any r.1 sc r.2 g.2 (ready_later Any sc st r.2 h g.0),
        g.2,
        g.1,
        g.0,
      )) (pat_grows Any depth sc pat bound st h k);
  exp = λ depth sc exp st h. given_more _ _ (infer_exp depth sc exp st)
      (λ r g. (ready_later Any sc st r.1 h g.0, g.1, g.0)) (exp_grows Any depth sc exp st h);
  rules = λ depth sc rules st h. given_more _ _ (infer_match depth sc rules st)
      (λ r g. (ready_later Any sc st r.1 h g.0, g.1, g.0)) (match_grows Any depth sc rules st h);
  own = λ sc tyvars rules recs st h. given_more _ _ (own_variables sc tyvars rules recs st)
      (λ r g. (
        ready_written Any r.0 sc r.1 g.1 (ready_later Any sc st r.1 h g.0),
        ready_later Any sc st r.1 h g.0,
        g.0,
      )) (own_grows Any sc tyvars rules recs st h);
  dec = λ depth sc dec st h. given_more _ _ (infer_dec depth sc dec st)
      (λ r g. (
        ready_later Any sc st r.1 h g.0,
        ready_under Any r.0 sc r.1 g.1 (ready_later Any sc st r.1 h g.0),
        g.0,
      )) (dec_grows Any depth sc dec st h);
}

pub binds_names_once : BindsNamesOnce
binds_names_once = record { pat = pat_once; groups = groups_more }

pub ends_by_variables : EndsByVariables
ends_by_variables = record { all = ended }
