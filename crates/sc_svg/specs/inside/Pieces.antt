-- Pieces of text.
use Rattle.std.specs.Prelude.{ℕ, List, pos}
use Rattle.sc_whole.specs.Spelling.{spelling}
use Rattle.sc_svg.specs.declared.pieces.Piece.{Piece}
use Rattle.sc_svg.specs.declared.pieces.Piece.TheVariants.{Text, Number, Signed}

-- the bytes of a piece
abbrev pub piece_text : Piece → List ℕ
piece_text (Text text) = text.now
piece_text (Number n) = spelling (pos n)
piece_text (Signed z) = spelling z
