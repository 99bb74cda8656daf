-- The parts of a generated project: its edits are of its own files, and its commands build.
use Rattle.std.proofs.Common.{◌≡◌, ◌≢◌, sym, subst, refl, arith, ℕ, zero, suc, ◌+◌, ◌-◌, ◌<◌, ◌≤◌, false, List, [], ◌∷◌, ◌++◌, map, Option, Some, None}
use Rattle.std.specs.Prelude.{Contains}
use Rattle.std.specs.List.{AllByRecursion, range_with_len}
use Rattle.std.proofs.lemmas.List.Elements.{Contains-append_left, Contains-append_right}
use Rattle.std.proofs.lemmas.List.FromFn.{get_or-map-range_with_len, length-map-range_with_len}
use Rattle.cm_base.specs.Files.{is_stored, store_prefix}
use Rattle.session_scripts.specs.declared.step.Step.{Step}
use Rattle.session_scripts.specs.declared.step.Step.TheVariants as step
use Rattle.generated_projects.specs.Generating.{build_project, build_word, description_path, generated, middle, numbers, source_path, write_again, write_description, write_source}
use Rattle.command_words.specs.Words.{command_of, is_definition_mark, verb_of}
use Rattle.command_words.specs.declared.command.Command.{Command}
use Rattle.command_words.specs.declared.command.Command.TheVariants as command
use Rattle.command_parts.specs.Generating.{IsPart, files_of}

-- ---- each is a part

description_outside : is_stored description_path ≡ false
unfolding is_stored description_path store_prefix
description_outside = refl

source_outside : (k : ℕ) → is_stored (source_path k) ≡ false
unfolding is_stored source_path store_prefix
source_outside k = refl

builds : command_of (build_word ∷ description_path ∷ []) ≡ Some (command.Build [] description_path)
unfolding verb_of is_definition_mark build_word description_path
builds = refl

means_command : command_of (build_word ∷ description_path ∷ []) ≢ None
means_command none = cc (builds, none)

sources_are : (a m : ℕ) (rest : List Step) → AllByRecursion IsPart rest
    → AllByRecursion IsPart (map write_source (range_with_len a m) ++ rest)
sources_are a zero rest all = all
sources_are a (suc m) rest all = (source_outside a, sources_are (a + 1) m rest all)

pub all_parts : (n : ℕ) → AllByRecursion IsPart (generated n)
all_parts n = (
  description_outside,
  sources_are 1 n (build_project ∷ write_again (middle n) ∷ build_project ∷ [])
      (means_command, (source_outside (middle n), (means_command, tt))),
)

-- ---- nothing outside the store changes but the project's files

pub none_within : (path : List ℕ) → Contains [] path → ⊥
none_within path (i, within, at) = omega (arith, within)

pub one_within : (x path : List ℕ) → Contains (x ∷ []) path → x ≡ path
one_within x path (zero, within, at) = at
one_within x path (suc i, within, at) = absurd (omega (arith, within))

-- what a part changes outside the store is one of the files of so many units; its command has no target
abbrev pub HasNoTarget : Option Command → Type 0
HasNoTarget None = Unit {0}
HasNoTarget (Some (command.Build defs root)) = Unit {0}
HasNoTarget (Some (command.Link defs root out)) = ⊥

abbrev pub IsOf : ℕ → Step → Type 0
IsOf n (step.Write path content) = Contains (files_of n) path
IsOf n (step.Remove path) = Contains (files_of n) path
IsOf n (step.Command words) = HasNoTarget (command_of words)

description_is : (n : ℕ) → IsOf n (write_description n)
description_is n =
    Contains-append_left (description_path ∷ []) (map source_path (numbers n)) description_path (0, omega arith, refl)

is_file : (n k : ℕ) → 1 ≤ k → k ≤ n → Contains (files_of n) (source_path k)
is_file n k least most =
    Contains-append_right (description_path ∷ []) (map source_path (numbers n)) (source_path k) (
      k - 1,
      subst (λ m. k - 1 < m) (sym (length-map-range_with_len source_path 1 n)) (omega (arith, least, most)),
      get_or-map-range_with_len source_path 1 n (k - 1) k (source_path k) (omega (arith, least, most))
          (omega (arith, least)),
    )

source_is : (n k : ℕ) → 1 ≤ k → k ≤ n → IsOf n (write_source k)
source_is n k least most = is_file n k least most

again_is : (n k : ℕ) → 1 ≤ k → k ≤ n → IsOf n (write_again k)
again_is n k least most = is_file n k least most

build_is : (n : ℕ) → IsOf n build_project
build_is n = subst HasNoTarget (sym builds) tt

sources_of : (n a m : ℕ) → 1 ≤ a → a + m ≤ n + 1 → (rest : List Step) → AllByRecursion (IsOf n) rest
    → AllByRecursion (IsOf n) (map write_source (range_with_len a m) ++ rest)
sources_of n a zero least most rest all = all
sources_of n a (suc m) least most rest all = (
  source_is n a least (omega (arith, most)),
  sources_of n (a + 1) m (omega arith) (omega (arith, most)) rest all,
)

middle_least : (n : ℕ) → 1 ≤ n → 1 ≤ middle n
middle_least n least = omega (arith, least)

middle_most : (n : ℕ) → 1 ≤ n → middle n ≤ n
middle_most n least = omega (arith, least)

pub all_of : (n : ℕ) → 1 ≤ n → AllByRecursion (IsOf n) (generated n)
all_of n least = (
  description_is n,
  sources_of n 1 n (omega arith) (omega arith) (build_project ∷ write_again (middle n) ∷ build_project ∷ [])
      (build_is n, (again_is n (middle n) (middle_least n least) (middle_most n least), (build_is n, tt))),
)
