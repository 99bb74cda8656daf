-- A declaration of the core means in a structure what it means in the core.
use Rattle.std.proofs.Common.{◌≡◌, ℕ, List, refl, ap, ◌∙◌, Some, None}
use Rattle.std.specs.Prelude.{Result, Ok, Err}
use Rattle.cm_base.specs.declared.diag.Diag.{Diag}
use Rattle.semantic_objects.specs.Environments.{Top, modified_by}
use Rattle.bare_phrases.specs.Phrases.{DecPhrase, DecPhrases}
use Rattle.static_semantics.specs.Inferring.{Progress, under, Answer, ◌>>=◌, gives, sized_dec}
use Rattle.static_semantics.specs.CoreInference.{infer_dec, infer_decs}
use Rattle.unit_semantics.specs.UnitPhrases.{module_dec, module_decs}
use Rattle.unit_semantics.specs.StructureInference.{core_scope, top_under, infer_module_dec, infer_module_decs}

-- what one answer gives, another one gives too
abbrev GivesAll : {A : Type 0} → Answer A → Answer A → Type 0
GivesAll {A} m k = (r : Result A Diag) → m ≡ Some r → k ≡ Some r

all_same : {A : Type 0} (m : Answer A) → GivesAll m m
all_same m r h = h

all_met : {A B : Type 0} (m k : Answer A) (f g : A → Answer B) (o : Answer A) → m ≡ o → GivesAll m k
    → ((x : A) → GivesAll (f x) (g x)) → GivesAll (o >>= f) (k >>= g)
all_met m k f g None e h i r j = absurd (cc)
all_met m k f g (Some (Err d)) e h i r j = ap (λ z. z >>= g) (h (Err d) e) ∙ j
all_met m k f g (Some (Ok x)) e h i r j = ap (λ z. z >>= g) (h (Ok x) e) ∙ i x r j

all_then : {A B : Type 0} (m k : Answer A) (f g : A → Answer B) → GivesAll m k → ((x : A) → GivesAll (f x) (g x))
    → GivesAll (m >>= f) (k >>= g)
all_then m k f g h i = all_met m k f g m refl h i

mutual
  pub dec_same : (depth : ℕ) (home : List ℕ) (top : Top) (dec : DecPhrase) (st : Progress)
      → GivesAll (infer_dec depth (core_scope home top) dec st) (infer_module_dec depth home top (module_dec dec) st)
  dec_same depth home top (DecPhrase.Val tyvars rules recs at) st = λ r h. h
  dec_same depth home top (DecPhrase.Types binds at) st = λ r h. h
  dec_same depth home top (DecPhrase.Datatypes binds at) st = λ r h. h
  dec_same depth home top (DecPhrase.Replication name long at) st = λ r h. h
  dec_same depth home top (DecPhrase.Exceptions binds at) st = λ r h. h
  dec_same depth home top (DecPhrase.Local hidden shown at) st =
      all_then (infer_dec depth (core_scope home top) hidden st)
      (infer_module_dec depth home top (module_dec hidden) st)
      (λ h. infer_dec depth (under h.0 (core_scope home top)) shown h.1 >>= λ r. sized_dec (core_scope home top) at r)
      (λ h. infer_module_dec depth home (top_under h.0 top) (module_dec shown) h.1
      >>= λ r. sized_dec (core_scope home top) at r)
      (dec_same depth home top hidden st)
      (λ h. all_then (infer_dec depth (core_scope home (top_under h.0 top)) shown h.1)
      (infer_module_dec depth home (top_under h.0 top) (module_dec shown) h.1)
      (λ r. sized_dec (core_scope home top) at r)
      (λ r. sized_dec (core_scope home top) at r)
      (dec_same depth home (top_under h.0 top) shown h.1)
      (λ r. all_same (sized_dec (core_scope home top) at r)))
  dec_same depth home top (DecPhrase.Open longs at) st = λ r h. h
  dec_same depth home top (DecPhrase.Sequence decs at) st = decs_same depth home top decs st
  dec_same depth home top (DecPhrase.Structures binds at) st = λ r h. absurd (cc)

  decs_same : (depth : ℕ) (home : List ℕ) (top : Top) (decs : DecPhrases) (st : Progress)
      → GivesAll (infer_decs depth (core_scope home top) decs st)
      (infer_module_decs depth home top (module_decs decs) st)
  decs_same depth home top DecPhrases.EndOfDecs st = λ r h. h
  decs_same depth home top (DecPhrases.Dec dec rest) st =
      all_then (infer_dec depth (core_scope home top) dec st)
      (infer_module_dec depth home top (module_dec dec) st)
      (λ r. infer_decs depth (under r.0 (core_scope home top)) rest r.1 >>= λ q. gives (modified_by r.0 q.0, q.1))
      (λ r. infer_module_decs depth home (top_under r.0 top) (module_decs rest) r.1
      >>= λ q. gives (modified_by r.0 q.0, q.1))
      (dec_same depth home top dec st)
      (λ r. all_then (infer_decs depth (core_scope home (top_under r.0 top)) rest r.1)
      (infer_module_decs depth home (top_under r.0 top) (module_decs rest) r.1)
      (λ q. gives (modified_by r.0 q.0, q.1))
      (λ q. gives (modified_by r.0 q.0, q.1))
      (decs_same depth home (top_under r.0 top) rest r.1)
      (λ q. all_same (gives (modified_by r.0 q.0, q.1))))
