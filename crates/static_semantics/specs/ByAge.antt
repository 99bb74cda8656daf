-- A `val` closed by the age of variables: those that were there before it are kept, and those that stand in what such
-- a one stands for. It needs no look at the environment.
use Rattle.std.specs.Prelude.{ℕ, List, [], ◌++◌}
use Rattle.sml_trees.specs.declared.name.At.{At}
use Rattle.sml_trees.specs.declared.name.Name.{Name}
use Rattle.semantic_objects.specs.Environments.{Env}
use Rattle.unification.specs.Closing.{kept_since}
use Rattle.bare_phrases.specs.Phrases.{Rules}
use Rattle.static_semantics.specs.Inferring.{Progress, Scope, with_written, Answer, ◌>>=◌, under_bound, sized_dec}
use Rattle.static_semantics.specs.TypeInference.{as_written}
use Rattle.static_semantics.specs.CoreInference.{own_variables, rec_bound, infer_rec_pats, rec_groups, closed_val, infer_binds, infer_rec_exps}

abbrev pub val_by_age : ℕ → Scope → List Name → Rules → Rules → At → Progress → Answer (Env × Progress)
val_by_age depth sc tyvars rules recs at st =
    own_variables sc tyvars rules recs st
    >>= λ own. infer_binds depth (with_written (as_written own.0) sc) rules [] [] own.1
    >>= λ b. infer_rec_pats depth (with_written (as_written own.0) sc) recs [] b.0 b.2
    >>= λ p. infer_rec_exps depth (under_bound (rec_bound p.0) (with_written (as_written own.0) sc)) recs p.0 p.1
    >>= λ u. closed_val sc at (kept_since st.types.next u.types.stands) own.0 (b.1 ++ rec_groups sc.env recs p.0) u
    >>= λ r. sized_dec sc at r
