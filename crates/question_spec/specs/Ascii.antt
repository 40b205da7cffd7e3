-- The bytes of a string literal.
use Rattle.std.specs.Prelude.{ℕ, List, [], ◌∷◌}
use Prim.Native.Char.{code}
use Prim.Native.String.{String, [] as empty, ◌∷◌ as ◌followed◌}

-- each character's number, which is its byte
abbrev pub ascii : String → List ℕ
ascii empty = []
ascii (c followed s) = code c ∷ ascii s

-- what stands between fields, and what ends a line (R8.3, R9.1, R9.2)
abbrev pub tab : ℕ
tab = code "\t"

abbrev pub newline : ℕ
newline = code "\n"
