-- Two interfaces, as nodes and as the bytes that they are written out in by hand, without the four letters before them.
use Rattle.std.specs.Prelude.{◌≡◌, ℕ, List, [], ◌∷◌, ◌++◌, ◌+◌, length, None, Some}
use Rattle.node_bytes.specs.Nodes.{Node, Content}
use Rattle.node_bytes.specs.Shapes.{with_byte, with_number, with_text}
use Rattle.node_bytes.specs.Spelling.{spelling}
use Rattle.node_bytes.specs.Reading.{alone_at}
use Rattle.node_bytes.specs.Interfaces.{interfaces}

-- a small number in four bytes
abbrev pub four : ℕ → List ℕ
four n = 0 ∷ 0 ∷ 0 ∷ n ∷ []

-- a type name of arity 0 that admits equality, without arguments: `int` is number 0 of the basis, `t` the unit's own 0
abbrev pub int_node : Node
int_node = Node.node 4 (with_byte 0 (with_number 0 (with_number 0 (with_byte 1 (with_number 0 Content.nothing)))))

abbrev pub t_node : Node
t_node = Node.node 4 (with_byte 1 (with_number 0 (with_number 0 (with_byte 1 (with_number 0 Content.nothing)))))

-- a scheme of no variables
abbrev pub scheme_node : Node → Node
scheme_node ty = Node.node 6 (with_text [] (Content.part ty Content.nothing))

-- a unit with the one structure `A`
abbrev pub unit_node : Node → Node
unit_node env =
    Node.node 11 (with_number 1 (with_text (65 ∷ []) (Content.part env
    (with_number 0 (with_number 0 (with_number 0 Content.nothing))))))

-- the interface of `structure A = struct val x = 1 end`
abbrev pub value_interface : Node
value_interface = unit_node (Node.node 8 (with_number 0 (with_number 0
    (with_number 1 (with_text (120 ∷ []) (with_byte 0 (Content.part (scheme_node int_node) Content.nothing)))))))

abbrev pub value_bytes : List ℕ
value_bytes =
    11 ∷ four 1 ++ four 1 ++ 65 ∷ 8 ∷ four 0 ++ four 0 ++ four 1 ++ four 1 ++ 120 ∷ 0 ∷ 6 ∷ four 0
    ++ 4 ∷ 0 ∷ four 0 ++ four 0 ++ 1 ∷ four 0 ++ four 0 ++ four 0 ++ four 0

-- a constructor of no argument, and a value, each with the scheme of `t`
abbrev pub t_named : List ℕ → Content → Content
t_named name content = with_text name (Content.part (scheme_node t_node) content)

abbrev pub t_valued : List ℕ → ℕ → Content → Content
t_valued name status content = with_text name (with_byte status (Content.part (scheme_node t_node) content))

-- the type structure of `t`
abbrev pub t_structure : Node
t_structure =
    Node.node 7 (Content.part (Node.node 5 (with_number 0 (Content.part t_node Content.nothing)))
    (with_number 1 (t_named (84 ∷ []) Content.nothing)))

-- the interface of `structure A = struct datatype t = T val x = T end`
abbrev pub datatype_interface : Node
datatype_interface = unit_node (Node.node 8 (with_number 0
    (with_number 1 (with_text (116 ∷ []) (Content.part t_structure
    (with_number 2 (t_valued (84 ∷ []) 1 (t_valued (120 ∷ []) 0 Content.nothing))))))))

-- its bytes up to the scheme of `T`, that scheme's type, and all behind it: node 4 is the type `t`, node 5 the scheme
abbrev pub datatype_front : List ℕ
datatype_front =
    11 ∷ four 1 ++ four 1 ++ 65 ∷ 8 ∷ four 0 ++ four 1 ++ four 1 ++ 116 ∷ 7 ∷ 5 ∷ four 0
    ++ 4 ∷ 1 ∷ four 0 ++ four 0 ++ 1 ∷ four 0 ++ four 1 ++ four 1 ++ 84 ∷ 6 ∷ four 0

abbrev pub datatype_rest : List ℕ
datatype_rest =
    four 2 ++ four 1 ++ 84 ∷ 1 ∷ 12 ∷ four 5 ++ four 1 ++ 120 ∷ 0 ∷ 12 ∷ four 5 ++ four 0 ++ four 0 ++ four 0

abbrev pub datatype_bytes : List ℕ
datatype_bytes = datatype_front ++ (12 ∷ four 4) ++ datatype_rest

-- the same with the type written out once more; with a back reference to any other node, as one that is open, or one
-- that comes later
abbrev pub written_again : List ℕ
written_again = datatype_front ++ (4 ∷ 1 ∷ four 0 ++ four 0 ++ 1 ∷ four 0) ++ datatype_rest

abbrev pub refers_to : ℕ → List ℕ
refers_to n = datatype_front ++ (12 ∷ four n) ++ datatype_rest

-- how they are spelled and read, with 65 and 106 bytes behind four letters
pub record InterfacesAreSo : Type 0 where
  pub value : spelling interfaces value_interface ≡ value_bytes
  pub value_size : 4 + length value_bytes ≡ 65
  pub value_read : alone_at interfaces value_bytes ≡ Some (value_interface, [])
  pub datatype : spelling interfaces datatype_interface ≡ datatype_bytes
  pub datatype_size : 4 + length datatype_bytes ≡ 106
  pub datatype_read : alone_at interfaces datatype_bytes ≡ Some (datatype_interface, [])
  pub twice : alone_at interfaces written_again ≡ None
  pub open_one : alone_at interfaces (refers_to 2) ≡ None
  pub later_one : alone_at interfaces (refers_to 6) ≡ None
