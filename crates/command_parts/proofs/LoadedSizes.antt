-- The numbers and texts of a loaded project are such as the store's formats can hold.
use Rattle.std.proofs.Common.{◌<◌, ◌^◌, length, get_or, arith}
use Rattle.std.specs.Prelude.{All}
use Rattle.cm_description.specs.declared.loaded.Project.{Project}
use Rattle.cm_description.specs.declared.loaded.UnitBody.{UnitBody}
use Rattle.cm_description.specs.declared.loaded.UnitBody.TheVariants as body
use Rattle.cutoff_builder.specs.Small.{IsShortBody, IsShortUnit}
use Rattle.loader_parts.specs.LoadedProjects.{HasSources, IsSourceBody, IsWithinLimits}

pub few_units : (p : Project) → IsWithinLimits p → length p.units < 2 ^ 32
few_units p within = let units = within.units in omega (arith, units)

short_body : (b : UnitBody) → IsSourceBody b → IsShortBody b
short_body (body.Source options source) small = omega (arith, small)
short_body (body.Frozen imports interface code) none = tt

pub short_units : (p : Project) → HasSources p → All IsShortUnit p.units
short_units p sources = λ k d within.
    let is = sources k d within in
    record { name = is.name; body = short_body (get_or p.units k d).body is.body }
