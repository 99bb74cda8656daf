-- The initial basis as a table: a row a line, with the names that it is for, a colon, and what they are.
-- The Definition of Standard ML (Revised), appendices C and D, cut down, with functions of the Standard ML Basis Library.
use Rattle.std.specs.Prelude.{ℕ, List, [], ◌∷◌, codes}

-- type names in the order of their numbers, which count from 0, each behind its arguments: `eqtype` where it admits
-- equality, and `type` where it doesn't
unfoldable pub type_lines : List (List ℕ)
type_lines =
    codes "int : eqtype"
    ∷ codes "bool : eqtype"
    ∷ codes "string : eqtype"
    ∷ codes "char : eqtype"
    ∷ codes "'a list : eqtype"
    ∷ codes "'a option : eqtype"
    ∷ codes "'a ref : eqtype"
    ∷ codes "exn : type"
    ∷ codes "order : eqtype"
    ∷ []

-- constructors, those of one type in byte order
unfoldable pub constructor_lines : List (List ℕ)
constructor_lines =
    codes "false true : bool"
    ∷ codes ":: : 'a * 'a list -> 'a list"
    ∷ codes "nil : 'a list"
    ∷ codes "NONE : 'a option"
    ∷ codes "SOME : 'a -> 'a option"
    ∷ codes "ref : 'a -> 'a ref"
    ∷ codes "EQUAL GREATER LESS : order"
    ∷ []

unfoldable pub exception_lines : List (List ℕ)
exception_lines =
    codes "Bind Chr Div Match Overflow Size Subscript : exn"
    ∷ codes "Fail : string -> exn"
    ∷ []

-- values
unfoldable pub value_lines : List (List ℕ)
value_lines =
    codes "+ - * div mod : int * int -> int"
    ∷ codes "~ abs : int -> int"
    ∷ codes "< <= > >= : int * int -> bool"
    ∷ codes "= <> : ''a * ''a -> bool"
    ∷ codes "not : bool -> bool"
    ∷ codes "^ : string * string -> string"
    ∷ codes "@ : 'a list * 'a list -> 'a list"
    ∷ codes "before : 'a * unit -> 'a"
    ∷ codes ":= : 'a ref * 'a -> unit"
    ∷ codes "! : 'a ref -> 'a"
    ∷ codes "ignore : 'a -> unit"
    ∷ codes "print : string -> unit"
    ∷ codes "ord : char -> int"
    ∷ codes "chr : int -> char"
    ∷ codes "str : char -> string"
    ∷ codes "explode : string -> char list"
    ∷ codes "implode : char list -> string"
    ∷ codes "size : string -> int"
    ∷ codes "concat : string list -> string"
    ∷ codes "substring : string * int * int -> string"
    ∷ codes "rev : 'a list -> 'a list"
    ∷ codes "length : 'a list -> int"
    ∷ []

-- the values of the built-in structures
unfoldable pub int_lines : List (List ℕ)
int_lines =
    codes "toString : int -> string"
    ∷ codes "compare : int * int -> order"
    ∷ codes "min max : int * int -> int"
    ∷ []

unfoldable pub string_lines : List (List ℕ)
string_lines =
    codes "sub : string * int -> char"
    ∷ codes "compare : string * string -> order"
    ∷ []

unfoldable pub char_lines : List (List ℕ)
char_lines =
    codes "ord : char -> int"
    ∷ codes "chr : int -> char"
    ∷ codes "compare : char * char -> order"
    ∷ []
