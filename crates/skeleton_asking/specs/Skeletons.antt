-- The skeletons of a project's units, in load order up to the first that is refused: as a compiler gives them, and as
-- they come over a store, where a source that a binfile was made of isn't read again.
use Rattle.std.specs.Prelude.{ℕ, List, [], ◌∷◌, ◌++◌, Bool, true, false, not, Option, Some, None, is_some, nat_eq, Result, Ok, Err, map, filter, if◌then◌else◌}
use Rattle.std.specs.Cmp.Lexicographic.{pointwise}
use Rattle.cm_base.specs.Files.{Files}
use Rattle.cm_base.specs.declared.diag.Diag.{Diag}
use Rattle.cm_base.specs.declared.record.Skeleton.{Skeleton}
use Rattle.cm_description.specs.declared.loaded.Project.{Project}
use Rattle.cm_description.specs.declared.loaded.Unit.{Unit as ProjectUnit}
use Rattle.cm_description.specs.declared.loaded.UnitBody.{UnitBody}
use Rattle.cm_description.specs.declared.loaded.UnitBody.TheVariants as body
use Rattle.bin_formats.specs.declared.bin.Bin.{Bin}
use Rattle.bin_store.specs.Stored.{stored_bin}

-- ---- units that are answered one after the other

-- the skeletons found, the diagnostic that ended them, and the units that the compiler was asked for
pub record Skeletons : Type 0 where
  pub found : List Skeleton
  pub ended : Option Diag
  pub asked : List (List ℕ)

-- one unit's skeleton or refusal, and what the compiler was asked for it
pub record Answer : Type 0 where
  pub gives : Result Skeleton Diag
  pub asked : List (List ℕ)

-- a unit's answer before the rest: a refusal ends the asking
abbrev pub then_skeletons : List (List ℕ) → Result Skeleton Diag → Skeletons → Skeletons
then_skeletons asked (Err diag) rest = record { found = []; ended = Some diag; asked = asked }
then_skeletons asked (Ok skeleton) rest = record {
  found = skeleton ∷ rest.found;
  ended = rest.ended;
  asked = asked ++ rest.asked;
}

abbrev pub after_answer : Answer → Skeletons → Skeletons
after_answer answer rest = then_skeletons answer.asked answer.gives rest

-- the skeletons of units whose names and bodies are answered so
abbrev pub skeletons_by : (List ℕ → UnitBody → Answer) → List ProjectUnit → Skeletons
skeletons_by answer [] = record { found = []; ended = None; asked = [] }
skeletons_by answer (unit ∷ units) = after_answer (answer unit.name unit.body) (skeletons_by answer units)

-- ---- as a compiler gives them

-- a skeleton without names
abbrev pub empty_skeleton : Skeleton
empty_skeleton = record { defined = []; free = [] }

abbrev pub ask_for : (List ℕ → List ℕ → Result Skeleton Diag) → List ℕ → List ℕ → Answer
ask_for skel name source = record { gives = skel name source; asked = name ∷ [] }

-- a skeleton for which nothing is asked
abbrev pub at_hand : Skeleton → Answer
at_hand skeleton = record { gives = Ok skeleton; asked = [] }

-- the compiler is asked for a source; a frozen unit has an empty skeleton, and nothing is asked for it
abbrev pub answer_to : (List ℕ → List ℕ → Result Skeleton Diag) → List ℕ → UnitBody → Answer
answer_to skel name (body.Source options source) = ask_for skel name source
answer_to skel name (body.Frozen imports interface code) = at_hand empty_skeleton

-- the compiler's skeletons of these units
abbrev pub skeletons_in : (List ℕ → List ℕ → Result Skeleton Diag) → List ProjectUnit → Skeletons
skeletons_in skel units = skeletons_by (answer_to skel) units

-- .. of a project
abbrev pub skeletons_of : (List ℕ → List ℕ → Result Skeleton Diag) → Project → Skeletons
skeletons_of skel project = skeletons_in skel project.units

-- ---- as they come over a store

-- the skeleton in a binfile that was made of this whole source, whatever its options and its imports
abbrev pub skeleton_of_source : List ℕ → Option Bin → Option Skeleton
skeleton_of_source source None = None
skeleton_of_source source (Some bin) = if pointwise nat_eq bin.source source then Some bin.skeleton else None

-- .. in the binfile that stands whole at a unit's place
unfoldable pub stored_skeleton : Files → List ℕ → List ℕ → Option Skeleton
stored_skeleton files unit source = skeleton_of_source source (stored_bin files unit)

-- the compiler is asked where the store has none
abbrev pub unless_stored : Option Skeleton → Answer → Answer
unless_stored (Some skeleton) answer = at_hand skeleton
unless_stored None answer = answer

abbrev pub answer_over : (List ℕ → List ℕ → Result Skeleton Diag) → Files → List ℕ → UnitBody → Answer
answer_over skel files name (body.Source options source) =
    unless_stored (stored_skeleton files name source) (ask_for skel name source)
answer_over skel files name (body.Frozen imports interface code) = at_hand empty_skeleton

-- the skeletons of a project over these files, whoever wrote them
abbrev pub skeletons_over : (List ℕ → List ℕ → Result Skeleton Diag) → Files → Project → Skeletons
skeletons_over skel files project = skeletons_by (answer_over skel files) project.units

-- ---- what is asked for over a good store

-- whether a unit is a source of which its binfile, if it stands whole, wasn't made
abbrev pub is_unread : Files → List ℕ → UnitBody → Bool
is_unread files name (body.Source options source) = not (is_some (stored_skeleton files name source))
is_unread files name (body.Frozen imports interface code) = false

-- the units up to the first that is refused, it included
abbrev pub unless_refused : Result Skeleton Diag → List ProjectUnit → List ProjectUnit
unless_refused (Ok skeleton) units = units
unless_refused (Err diag) units = []

abbrev pub up_to_refused : (List ℕ → List ℕ → Result Skeleton Diag) → List ProjectUnit → List ProjectUnit
up_to_refused skel [] = []
up_to_refused skel (unit ∷ units) =
    unit ∷ unless_refused (answer_to skel unit.name unit.body).gives (up_to_refused skel units)

-- the names of the unread ones among them
abbrev pub asked_in : (List ℕ → List ℕ → Result Skeleton Diag) → Files → List ProjectUnit → List (List ℕ)
asked_in skel files units =
    map (λ unit. unit.name) (filter (λ unit. is_unread files unit.name unit.body) (up_to_refused skel units))

-- of a project's units the compiler is asked for these
abbrev pub asked_over : (List ℕ → List ℕ → Result Skeleton Diag) → Files → Project → List (List ℕ)
asked_over skel files project = asked_in skel files project.units

-- the compiler's skeletons, where it is asked for these alone
abbrev pub plain_in : (List ℕ → List ℕ → Result Skeleton Diag) → Files → List ProjectUnit → Skeletons
plain_in skel files units = record {
  found = (skeletons_in skel units).found;
  ended = (skeletons_in skel units).ended;
  asked = asked_in skel files units;
}

abbrev pub plain_over : (List ℕ → List ℕ → Result Skeleton Diag) → Files → Project → Skeletons
plain_over skel files project = plain_in skel files project.units
