-- The linked program can hold each unit whose binfile the store's format can hold.
use Rattle.std.proofs.Common.{◌<◌, ◌^◌, List, length, get_or, subst}
use Rattle.std.specs.Prelude.{All}
use Rattle.cm_base.specs.declared.record.BuiltUnit.{BuiltUnit}
use Rattle.cm_base.specs.declared.record.Import.{Import}
use Rattle.linker.specs.Linked.{IsShortBuilt}
use Rattle.cutoff_builder.specs.Doing.{HasShortBin}

short_built : (unit : BuiltUnit) → HasShortBin unit → IsShortBuilt unit
short_built unit has = record {
  name = subst (λ text. length text < 2 ^ 32) has.named has.short.unit;
  imports = subst (λ (imports : List Import). length imports < 2 ^ 32) has.imports has.short.imports;
  code = subst (λ text. length text < 2 ^ 32) has.code has.short.code;
  each = subst (λ (imports : List Import). All (λ import. length import.name.name < 2 ^ 32) imports) has.imports
      (λ k d within. (has.short.each_import k d within).name);
}

pub all_short : (units : List BuiltUnit) → All HasShortBin units → All IsShortBuilt units
all_short units have = λ k d within. short_built (get_or units k d) (have k d within)
