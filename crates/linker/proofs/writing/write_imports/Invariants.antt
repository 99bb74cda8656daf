use Rattle.std.proofs.Common.{◌≡◌, ◌++◌, drop}
use Rattle.std.specs.List.{flat_map}
use Rattle.cm_bytes.specs.Fields.{list_of}
use Rattle.linker.specs.Spelling.{linked_import_of}
use Rattle.linker.proofs.writing.write_imports.Given as goal

-- what is written and the spellings of the rest are the whole list
abbrev pub invariant-loop-import : goal.invariant-loop-import
invariant-loop-import l =
    l.out ++ flat_map linked_import_of (drop l.import-index l.imports) ≡ l.fn.out ++ list_of linked_import_of l.imports
