-- A build under way: the first units are done, with these files, and these units were asked for.
use Rattle.std.proofs.Common.{◌≡◌, ◌∙◌, sym, ap, subst, refl, inl, inr, ◌⊎◌, ℕ, zero, suc, ◌+◌, List, [], ◌∷◌, ◌++◌, Option, Some, None, take, drop, arith, append-nil, append_assoc}
use Rattle.std.specs.Prelude.{Result, Ok, Err, slice_get}
use Rattle.std.specs.List.{AllByRecursion}
use Rattle.cm_base.specs.Files.{Files}
use Rattle.cm_base.specs.Fronts.{GrowsUpTo}
use Rattle.cm_base.specs.declared.diag.Diag.{Diag}
use Rattle.cm_base.specs.declared.record.Built.{Built}
use Rattle.cm_base.specs.declared.record.BuiltUnit.{BuiltUnit}
use Rattle.cm_base.specs.declared.record.CompileInput.{CompileInput}
use Rattle.cm_base.specs.declared.record.Compiled.{Compiled}
use Rattle.cm_base.specs.declared.record.PlannedUnit.{PlannedUnit}
use Rattle.cm_base.specs.declared.record.Skeleton.{Skeleton}
use Rattle.cm_description.specs.declared.loaded.Project.{Project}
use Rattle.cm_description.specs.declared.loaded.Wanted.{Wanted}
use Rattle.build_laws.specs.CutBuild.{Cut, cut_after, cut_build}
use Rattle.build_laws.specs.Left.{CutSoFar, NextUnit, LeftByCut}
use Rattle.build_laws.proofs.Fronts.{after_front, cut_start, cut_more, cut_refused, cut_asks}
use Rattle.cutoff_builder.specs.Answers.{Cuts, Steps}
use Rattle.cutoff_builder.specs.Planning.{planned_at, planned_in}
use Rattle.cutoff_builder.specs.declared.builder.BuildFault.TheVariants as stop
use Rattle.cutoff_builder.specs.declared.turn.UnitFault.{UnitFault}
use Rattle.cutoff_builder.specs.declared.turn.UnitFault.TheVariants as unit_stop

-- ---- the units of the first numbers, of the next one, and of the rest

drop_at : (i : ℕ) (xs : List ℕ) (n : ℕ) → slice_get xs i ≡ Some n → drop i xs ≡ n ∷ drop (suc i) xs
drop_at zero [] n is = cc
drop_at (suc i) [] n is = cc
drop_at zero (x ∷ xs) n is = let same : x ≡ n = cc in ap (λ y. y ∷ xs) same
drop_at (suc i) (x ∷ xs) n is = drop_at i xs n is

take_at : (i : ℕ) (xs : List ℕ) (n : ℕ) → slice_get xs i ≡ Some n → take (suc i) xs ≡ take i xs ++ n ∷ []
take_at zero [] n is = cc
take_at (suc i) [] n is = cc
take_at zero (x ∷ xs) n is = let same : x ≡ n = cc in ap (λ y. y ∷ []) same
take_at (suc i) (x ∷ xs) n is = ap (λ l. x ∷ l) (take_at i xs n is)

one_more : (i : ℕ) → i + 1 ≡ suc i
one_more i = omega arith

both_parts : (i : ℕ) (xs : List ℕ) → take i xs ++ drop i xs ≡ xs
both_parts zero xs = refl
both_parts (suc i) [] = refl
both_parts (suc i) (x ∷ xs) = ap (λ l. x ∷ l) (both_parts i xs)

module _ (project : Project) (skeletons : List Skeleton) (wanted : List (List Wanted)) where
  planned_append : (xs ys : List ℕ)
      → planned_in project skeletons wanted (xs ++ ys) ≡ planned_in project skeletons wanted xs ++ planned_in project skeletons wanted ys
  planned_append [] ys = refl
  planned_append (x ∷ xs) ys =
      ap (λ l. planned_at project skeletons wanted x ++ l) (planned_append xs ys)
      ∙ sym (append_assoc (planned_at project skeletons wanted x) (planned_in project skeletons wanted xs) (planned_in project skeletons wanted ys))

  pub planned_split : (i : ℕ) (xs : List ℕ) (n : ℕ) → slice_get xs i ≡ Some n
      → planned_in project skeletons wanted xs
      ≡ planned_in project skeletons wanted (take i xs)
      ++ (planned_at project skeletons wanted n ++ planned_in project skeletons wanted (drop (i + 1) xs))
  planned_split i xs n is =
      ap (planned_in project skeletons wanted) (sym (both_parts i xs)) ∙ planned_append (take i xs) (drop i xs)
      ∙ ap (λ l. planned_in project skeletons wanted (take i xs) ++ planned_in project skeletons wanted l) (drop_at i xs n is)
      ∙ ap (λ k. planned_in project skeletons wanted (take i xs)
      ++ (planned_at project skeletons wanted n ++ planned_in project skeletons wanted (drop k xs))) (sym (one_more i))

  pub planned_more : (i : ℕ) (xs : List ℕ) (n : ℕ) → slice_get xs i ≡ Some n
      → planned_in project skeletons wanted (take (i + 1) xs)
      ≡ planned_in project skeletons wanted (take i xs) ++ planned_at project skeletons wanted n
  planned_more i xs n is =
      ap (λ k. planned_in project skeletons wanted (take k xs)) (one_more i)
      ∙ ap (planned_in project skeletons wanted) (take_at i xs n is) ∙ planned_append (take i xs) (n ∷ [])
      ∙ ap (λ l. planned_in project skeletons wanted (take i xs) ++ l) (append-nil (planned_at project skeletons wanted n))

-- what holds of each item of lists one after another holds of those in the middle
pub each_middle : {A : Type 0} (P : A → Type 0) (xs ys zs : List A) → AllByRecursion P (xs ++ (ys ++ zs)) → AllByRecursion P ys
each_middle P (x ∷ xs) ys zs all = each_middle P xs ys zs all.1
each_middle P [] [] zs all = tt
each_middle P [] (y ∷ ys) zs all = (all.0, each_middle P [] ys zs all.1)

-- ---- the build

module _ (compiled : CompileInput → Result Compiled Diag) (files : Files) where
  pub record Going (front : List PlannedUnit) (ds : List BuiltUnit) (start asked : List (List ℕ)) (now : Option Files) : Type 0 where
    pub here : Files
    pub some : List (List ℕ)
    pub so_far : CutSoFar compiled files front ds some here
    pub holds : now ≡ Some here
    pub grew : asked ≡ start ++ some

  pub going_start : (start : List (List ℕ)) (old : Option Files) → old ≡ Some files → Going [] [] start start old
  going_start start old told = record {
    here = files;
    some = [];
    so_far = cut_start compiled files;
    holds = told;
    grew = sym (append-nil start);
  }

  module _ (front : List PlannedUnit) (ds : List BuiltUnit) (start asked : List (List ℕ)) (now : Option Files)
      (going : Going front ds start asked now) (next : List PlannedUnit) (after : List BuiltUnit) (new : Option Files)
      (asked' : List (List ℕ)) where
    abbrev cut : Cut
    cut = cut_after compiled going.here ds next

    abbrev Stepped : Result (Unit {0}) UnitFault → Type 0
    Stepped r = Steps r compiled going.here next ds after cut new asked asked'

    -- some units more
    pub going_more : (done : Unit {0}) → Stepped (Ok done) → Going (front ++ next) after start asked' new
    going_more done steps = record {
      here = cut.files;
      some = going.some ++ cut.asked;
      so_far = subst (λ us. CutSoFar compiled files (front ++ next) us (going.some ++ cut.asked) cut.files) (sym steps.leaves.1)
          (cut_more compiled files front ds going.some going.here going.so_far next steps.leaves.0);
      holds = steps.leaves.2;
      grew = steps.asks ∙ ap (λ l. l ++ cut.asked) going.grew ∙ append_assoc start going.some cut.asked;
    }

    module _ (planned later : List PlannedUnit) (split : planned ≡ front ++ (next ++ later)) where
      -- a unit that is refused ends the build
      pub going_stops : (d : Diag) (done : Built) → done.units ≡ after → Stepped (Err (unit_stop.Diag d))
          → Cuts (Err (stop.Stop d done)) compiled files planned (cut_build compiled files planned) new start asked'
      going_stops d done units steps =
          let ends : cut_build compiled files planned ≡ after_front ds going.some cut =
          ap (cut_build compiled files) split
          ∙ cut_refused compiled files front ds going.some going.here going.so_far next later d steps.leaves.0 in
          record {
            leaves = (
              ap (λ (c : Cut). c.units) ends ∙ sym steps.leaves.1 ∙ sym units,
              ap (λ (c : Cut). c.ended) ends ∙ steps.leaves.0,
              steps.leaves.2 ∙ ap (λ (c : Cut). Some c.files) (sym ends),
            );
            asks = steps.asks ∙ ap (λ l. l ++ cut.asked) going.grew ∙ append_assoc start going.some cut.asked
                ∙ ap (λ (c : Cut). start ++ c.asked) (sym ends);
          }

      next_left : NextUnit compiled ds going.here next new → NextUnit compiled ds going.here (next ++ later) new
      next_left one = record {
        at = one.at;
        later = one.later ++ later;
        first = ap (λ l. l ++ later) one.first;
        unit = one.unit;
        gives = one.gives;
        came = one.came;
        stores = one.stores;
      }

      -- a turn that was cut off
      left_here : (new ≡ Some going.here) ⊎ NextUnit compiled ds going.here next new → LeftByCut compiled files planned new
      left_here (inl same) = record {
        front = front;
        rest = next ++ later;
        split = split;
        done = ds;
        asked = going.some;
        here = going.here;
        so_far = going.so_far;
        next = inl same;
      }
      left_here (inr one) = record {
        front = front;
        rest = next ++ later;
        split = split;
        done = ds;
        asked = going.some;
        here = going.here;
        so_far = going.so_far;
        next = inr (next_left one);
      }

      -- .. after its unit was stored
      left_after : (cut.ended ≡ None) × (new ≡ Some cut.files) → LeftByCut compiled files planned new
      left_after (ended, same) = record {
        front = front ++ next;
        rest = later;
        split = split ∙ sym (append_assoc front next later);
        done = ds ++ cut.units;
        asked = going.some ++ cut.asked;
        here = cut.files;
        so_far = cut_more compiled files front ds going.some going.here going.so_far next ended;
        next = inl same;
      }

      left_full : ((new ≡ Some going.here) ⊎ NextUnit compiled ds going.here next new) ⊎ ((cut.ended ≡ None) × (new ≡ Some cut.files))
          → LeftByCut compiled files planned new
      left_full (inl here) = left_here here
      left_full (inr there) = left_after there

      pub going_folder : Stepped (Err unit_stop.Folder)
          → Cuts (Err stop.Folder) compiled files planned (cut_build compiled files planned) new start asked'
      going_folder steps = record {
        leaves = left_here steps.leaves;
        asks = subst (λ ps. GrowsUpTo start asked' (cut_build compiled files ps).asked) (sym split)
            (cut_asks compiled files front ds going.some going.here going.so_far next later start asked asked' going.grew steps.asks);
      }

      pub going_memory : Stepped (Err unit_stop.NoMemory)
          → Cuts (Err stop.NoMemory) compiled files planned (cut_build compiled files planned) new start asked'
      going_memory steps = record {
        leaves = left_full steps.leaves;
        asks = subst (λ ps. GrowsUpTo start asked' (cut_build compiled files ps).asked) (sym split)
            (cut_asks compiled files front ds going.some going.here going.so_far next later start asked asked' going.grew steps.asks);
      }

  -- no unit is left
  pub going_ends : (planned : List PlannedUnit) (ds : List BuiltUnit) (start asked : List (List ℕ)) (now : Option Files)
      → Going planned ds start asked now → (built : Built) → built.units ≡ ds
      → Cuts (Ok built) compiled files planned (cut_build compiled files planned) now start asked
  going_ends planned ds start asked now going built units = record {
    leaves = (
      ap (λ (c : Cut). c.units) going.so_far.is ∙ sym units,
      ap (λ (c : Cut). c.ended) going.so_far.is,
      going.holds ∙ ap (λ (c : Cut). Some c.files) (sym going.so_far.is),
    );
    asks = going.grew ∙ ap (λ (c : Cut). start ++ c.asked) (sym going.so_far.is);
  }
