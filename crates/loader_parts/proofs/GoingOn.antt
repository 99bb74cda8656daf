-- What each step of the way down leaves is ready for the next one.
use Rattle.std.proofs.Common.{◌≡◌, ℕ, ◌<◌, List, length, Bool, true, false, Result, Ok, Err, refl, sym, subst, arith, if◌then◌else◌}
use Rattle.std.specs.Prelude.{Contains}
use Rattle.std.proofs.lemmas.Map.Views.{Contains-from_any}
use Rattle.cm_base.specs.Diags.{whole_file}
use Rattle.cm_base.specs.declared.diag.Diag.{Diag}
use Rattle.cm_base.specs.declared.record.Options.{Options}
use Rattle.cm_description.specs.declared.loaded.Group.{Group}
use Rattle.project_loading.specs.Projects.{is_finished, passes_limits, source_unit, with_source}
use Rattle.project_checks.specs.Loaded.{with_begun, with_finished, with_membership, with_unit}
use Rattle.project_checks.specs.Whole.{Descends, IsOpen, IsRead, IsSound}
use Rattle.project_checks.specs.declared.progress.Progress.{Progress}
use Rattle.project_checks.proofs.Above.{same_number}
use Rattle.project_checks.proofs.Sounding.{descends_group, descends_on, descends_same, open_begun, open_behind, open_stays, sound_begun, sound_finished, sound_membership, sound_unit}
use Rattle.loader_parts.specs.Loaders.{GoesOn, HasTables, IsReady}
use Rattle.loader_parts.specs.declared.loader.Loader.{Loader}

-- two steps in a row
pub goes_through : (old mid new : Loader) → GoesOn old mid → GoesOn mid new → GoesOn old new
goes_through old mid new one two = record {
  ready = two.ready;
  down = descends_on old.progress mid.progress new.progress one.down two.down;
}

-- ---- sources

within_limits : (b : Bool) (name : List ℕ) (p q : Progress)
    → ◌≡◌ {A = Result Progress Diag} (if b then Err (whole_file 12 name) else Ok p) (Ok q) → p ≡ q
within_limits true name p q h = absurd (cc)
within_limits false name p q h = cc

pub source_goes : (old new : Loader) (group : ℕ) (name : List ℕ) (options : Options) (source : List ℕ)
    → IsReady old → IsOpen old.progress group → HasTables new
    → with_source group name options source old.progress ≡ Ok new.progress → GoesOn old new
source_goes old new group name options source ready going tables is =
    let p = old.progress in
    let unit = source_unit name group options source in
    let more : with_unit unit (length source) p ≡ new.progress =
    within_limits (passes_limits p (length source)) name (with_unit unit (length source) p) new.progress is in
    record {
      ready = record {
        tables = tables;
        sound = subst IsSound more (sound_unit p unit (length source) ready.sound going.known);
      };
      down = subst (Descends p) more (descends_same p (with_unit unit (length source) p) refl refl);
    }

-- ---- groups

pub begun_ready : (old begun : Loader) (group : Group) → IsReady old → IsRead group → HasTables begun
    → begun.progress ≡ with_begun group old.progress → IsReady begun
begun_ready old begun group ready read tables starts = record {
  tables = tables;
  sound = subst IsSound (sym starts) (sound_begun old.progress group ready.sound read);
}

pub begun_open : (old begun : Loader) (group : Group) → IsReady old
    → begun.progress ≡ with_begun group old.progress → IsOpen begun.progress (length old.progress.groups)
begun_open old begun group ready starts =
    subst (λ (p : Progress). IsOpen p (length old.progress.groups)) (sym starts)
    (open_begun old.progress group ready.sound)

module _ (old begun mid new : Loader) (group : Group) (ready : IsReady old)
    (starts : begun.progress ≡ with_begun group old.progress) (down : GoesOn begun mid)
    (ends : new.progress ≡ with_finished (length old.progress.groups) mid.progress) where
  below : Descends (with_begun group old.progress) mid.progress
  below = subst (λ (p : Progress). Descends p mid.progress) starts down.down

  pub group_goes : HasTables new → GoesOn old new
  group_goes tables = record {
    ready = record {
      tables = tables;
      sound = subst IsSound (sym ends) (sound_finished mid.progress (length old.progress.groups) down.ready.sound
          (open_behind old.progress mid.progress group ready.sound below));
    };
    down = subst (Descends old.progress) (sym ends) (descends_group old.progress mid.progress group below);
  }

-- ---- members

pub ended_before : (p : Progress) (number : ℕ) → is_finished p number ≡ true → Contains p.finished number
ended_before p number h = Contains-from_any same_number number p.finished h

pub joined_goes : (old new : Loader) (group member : ℕ) → IsReady old → IsOpen old.progress group
    → Contains old.progress.finished member → HasTables new
    → new.progress ≡ with_membership group member old.progress → GoesOn old new
joined_goes old new group member ready going done tables is =
    let p = old.progress in
    record {
      ready = record {
        tables = tables;
        sound = subst IsSound (sym is) (sound_membership p group member ready.sound going done);
      };
      down = subst (Descends p) (sym is) (descends_same p (with_membership group member p) refl refl);
    }

-- a group that was entered is a member
pub entered_goes : (old mid new : Loader) (holder : ℕ) → IsOpen old.progress holder → GoesOn old mid
    → length old.progress.groups < length mid.progress.groups → HasTables new
    → new.progress ≡ with_membership holder (length old.progress.groups) mid.progress → GoesOn old new
entered_goes old mid new holder going first more tables is =
    goes_through old mid new first
    (joined_goes mid new holder (length old.progress.groups) first.ready
    (open_stays old.progress mid.progress holder going first.down)
    (first.down.ended (length old.progress.groups) (omega arith) more) tables is)
