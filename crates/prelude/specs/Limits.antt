-- The limits of documents 01 and 02, each with its sentence.
-- Assumes nothing.
use Rattle.std.specs.Prelude.{ℕ}

-- "string or JSON8 text over 32,768 bytes"; "a whole text of up to 32,768 bytes"
abbrev pub text_max : ℕ
text_max = 32768

-- "a line over 1,024"
abbrev pub line_max : ℕ
line_max = 1024

-- "byte 1,048,577"
abbrev pub upload_max : ℕ
upload_max = 1048576

-- "a 1,025th node"
abbrev pub node_max : ℕ
node_max = 1024

-- "32 deep"
abbrev pub depth_max : ℕ
depth_max = 32

-- "a column name, 1 to 64 times"
abbrev pub column_max : ℕ
column_max = 64
