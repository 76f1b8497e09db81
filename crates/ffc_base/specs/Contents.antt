-- Bytes that are read in order.
use Rattle.std.specs.Prelude.{ℕ, ◌+◌, List, drop}

-- the bytes, and how many of them were read
pub record Contents : Type 0 where
  pub bytes : List ℕ
  pub position : ℕ

-- the bytes that are still to be read
abbrev pub left_of : Contents → List ℕ
left_of c = drop c.position c.bytes

-- the same with n more bytes read
abbrev pub advanced : ℕ → Contents → Contents
advanced n c = record c { position = c.position + n }

-- the same with nothing read
abbrev pub rewound : Contents → Contents
rewound c = record c { position = 0 }
