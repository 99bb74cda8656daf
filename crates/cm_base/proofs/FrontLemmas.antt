-- How fronts of lists, and lists that grew by them, are put together.
use Rattle.std.proofs.Common.{◌≡◌, ◌∙◌, sym, ap, refl, List, [], ◌++◌, append-nil, append_assoc}
use Rattle.cm_base.specs.Fronts.{IsFront, GrowsUpTo}

-- the whole is a front
pub front_all : {A : Type 0} (xs ys : List A) → xs ≡ ys → IsFront xs ys
front_all xs ys same = ([], append-nil xs ∙ same)

-- a front of a front
pub front_front : {A : Type 0} (xs ys zs more : List A) → IsFront xs ys → ys ++ more ≡ zs → IsFront xs zs
front_front xs ys zs more front is =
    (front.0 ++ more, sym (append_assoc xs front.0 more) ∙ ap (λ l. l ++ more) front.1 ∙ is)

-- a list that grew by all
pub grows_all : {A : Type 0} (old new added : List A) → new ≡ old ++ added → GrowsUpTo old new added
grows_all old new added is = (added, is, ([], append-nil added))

-- .. by nothing
pub grows_none : {A : Type 0} (old new added : List A) → new ≡ old → GrowsUpTo old new added
grows_none old new added is = ([], is ∙ sym (append-nil old), (added, refl))

-- .. by a front of what begins a longer list
pub grows_more : {A : Type 0} (old new added more whole : List A) → added ++ more ≡ whole → GrowsUpTo old new added
    → GrowsUpTo old new whole
grows_more old new added more whole is grown = (grown.0, grown.1, front_front grown.0 added whole more grown.2 is)

-- .. by some, and then by a front of the others
pub grows_after : {A : Type 0} (old between new some more whole : List A) → some ++ more ≡ whole
    → between ≡ old ++ some → GrowsUpTo between new more → GrowsUpTo old new whole
grows_after old between new some more whole is first grown = (
  some ++ grown.0,
  grown.1 ∙ ap (λ l. l ++ grown.0) first ∙ append_assoc old some grown.0,
  (grown.2.0, append_assoc some grown.0 grown.2.0 ∙ ap (λ l. some ++ l) grown.2.1 ∙ is),
)
