use Rattle.std.proofs.Common.{◌≡◌, ◌++◌, drop, take, flat_map, All}
use Rattle.cm_bytes.specs.Fields.{list_of}
use Rattle.bin_formats.specs.Format.{import_of, IsImport}
use Rattle.bin_formats.proofs.write.write_imports.Given as goal

-- what is written, and the items that are left; those that are written fit
abbrev pub invariant-loop-import : goal.invariant-loop-import
invariant-loop-import l = record {
  written : l.out ++ flat_map import_of (drop l.import-index l.imports) ≡ l.fn.out ++ list_of import_of l.fn.imports;
  fit : All IsImport (take l.import-index l.imports);
}
