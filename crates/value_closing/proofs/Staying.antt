-- What is in scope stays of what a table knows.
use Rattle.std.proofs.Common.{◌≡◌, ◌<◌, ◌≤◌, List, length, take, sym, ap, ◌∙◌, subst, arith}
use Rattle.std.proofs.lemmas.List.{length-take}
use Rattle.std.proofs.Math.Nat.{min-le_right}
use Rattle.semantic_objects.specs.Trees.{TypeScheme}
use Rattle.unification.specs.Types.{Ty, State}
use Rattle.type_nodes.specs.Tables.{state}
use Rattle.static_semantics.specs.Inferring.{seen}
use Rattle.static_semantics.specs.Growing.{TyIn, SchemeIn, FunctionIn}
use Rattle.static_semantics.proofs.Holding.{rows_more, env_more}
use Rattle.closing_laws.specs.Promises.{Any}
use Rattle.value_closing.specs.Promises.{StaysOfTable}

front_shorter : {A : Type 0} (first next : List A) → take (length first) next ≡ first → length first ≤ length next
front_shorter first next h = subst (λ n. n ≤ length next) (sym (length-take (length first) next) ∙ ap length h)
    (min-le_right (length first) (length next))

ty_stays : (s u : State) → s.next ≤ u.next → (t : Ty) → TyIn Any s t → TyIn Any u t
ty_stays s u h t k = record {
  below = λ n e. let l : n < s.next = k.below n e in omega (arith, l, h);
  within = λ n e. tt;
}

scheme_stays : (s u : State) → s.next ≤ u.next → (σ : TypeScheme) → SchemeIn Any s σ → SchemeIn Any u σ
scheme_stays s u h σ k = record { closed = k.closed; body = ty_stays s u h (seen Ty.Var σ.body) k.body }

pub stays_of_table : StaysOfTable
stays_of_table g h old new sc k l front o =
    let shorter : length old.births ≤ length new.births = front_shorter old.births new.births front.front.births in
    let below : (state old).next ≤ (state new).next = let m = k.next in let n = l.next in omega (arith, shorter, m, n) in
    record {
      fit = l.fit;
      new = λ n e. tt;
      scope = record {
        env = env_more (SchemeIn Any (state old)) (SchemeIn Any (state new)) (FunctionIn Any (state old))
            (FunctionIn Any (state new)) (scheme_stays (state old) (state new) below)
            (λ function i. ty_stays (state old) (state new) below (seen Ty.Var function.body) i) sc.env o.scope.env;
        written = rows_more (TyIn Any (state old)) (TyIn Any (state new)) sc.written
            (ty_stays (state old) (state new) below) o.scope.written;
      };
    }
