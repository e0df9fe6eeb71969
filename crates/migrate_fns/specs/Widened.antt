-- The same number in twice the bytes.
use Rattle.value_model.specs.Kinds.{Size, one, two, four, eight}
use Rattle.value_model.specs.Trees.{Tree, unsigned_tree, signed_tree}

-- twice the bytes of an integer; there is no wider size than eight
abbrev pub wider : Size → Size
wider one = two
wider two = four
wider four = eight
wider eight = eight

-- the same number in twice the bytes; what is no number stays
abbrev pub widened : Tree → Tree
widened (unsigned_tree s n) = unsigned_tree (wider s) n
widened (signed_tree s z) = signed_tree (wider s) z
widened other = other
