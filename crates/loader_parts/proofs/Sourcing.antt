-- A source that is met has the limits of a source.
use Rattle.std.proofs.Common.{◌≡◌, ◌<◌, ◌≤◌, ◌^◌, ◌+◌, ℕ, false, List, [], ◌∷◌, ◌++◌, length, sym, subst}
use Rattle.std.specs.Prelude.{All, nat_lt}
use Rattle.std.proofs.lemmas.Bool.{ltb-false}
use Rattle.std.proofs.lemmas.List.Elements.{All-push}
use Rattle.cm_base.specs.declared.record.Options.{Options}
use Rattle.cm_description.specs.declared.loaded.Unit.{Unit as LoadedUnit}
use Rattle.project_checks.specs.declared.limits.TheConstants.{ALL_SOURCES, UNITS}
use Rattle.project_checks.specs.declared.progress.Progress.{Progress}
use Rattle.project_loading.specs.Projects.{passes_limits, source_unit}
use Rattle.loader_parts.specs.LoadedProjects.{IsSource}
use Rattle.loader_parts.proofs.NameLengths.{neither}

pub room_for_units : (p : Progress) (bytes : ℕ) → passes_limits p bytes ≡ false → length p.units + 1 ≤ UNITS
room_for_units p bytes is =
    ltb-false UNITS (length p.units + 1)
    (neither (nat_lt UNITS (length p.units + 1)) (nat_lt ALL_SOURCES (p.sum + bytes)) is).0

pub room_for_bytes : (p : Progress) (bytes : ℕ) → passes_limits p bytes ≡ false → p.sum + bytes ≤ ALL_SOURCES
room_for_bytes p bytes is =
    ltb-false ALL_SOURCES (p.sum + bytes)
    (neither (nat_lt UNITS (length p.units + 1)) (nat_lt ALL_SOURCES (p.sum + bytes)) is).1

pub sources_more : (units new : List LoadedUnit) (name : List ℕ) (group : ℕ) (options : Options) (source : List ℕ)
    → new ≡ units ++ source_unit name group options source ∷ [] → All IsSource units → length name < 2 ^ 32
    → length source ≤ ALL_SOURCES → All IsSource new
sources_more units new name group options source is all named small =
    subst (All IsSource) (sym is)
    (All-push IsSource units (source_unit name group options source) all (record { name = named; body = small }))
