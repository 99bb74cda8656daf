-- Trees that are copied node by node. Only private functions cite this file.
use Rattle.semantic_objects.specs.Trees.{Tree}

-- the same tree
abbrev pub same_tree : Tree → Tree
same_tree tree = tree
