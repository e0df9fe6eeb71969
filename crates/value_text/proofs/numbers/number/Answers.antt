use Rattle.std.specs.Char.{is_ascii_digit}
use Rattle.std.proofs.lemmas.List.Sums.{prefix_len-le-length}
use Rattle.value_text.specs.lemmas.Digits.{digits_in_front}
use Rattle.value_text.proofs.numbers.number.Goals as goal

pub split_at-requires : goal.split_at-requires
split_at-requires c = rw c.digit_count.ensures (prefix_len-le-length is_ascii_digit c.args.bytes.now)

pub number_of-requires : goal.number_of-requires
number_of-requires c = rw (c.split_at.ensures.front, c.digit_count.ensures) (digits_in_front c.args.bytes.now)
