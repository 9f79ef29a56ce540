-- 143 words that are all 0 are the fresh record.
use mathlib.Core.Path.{◌≡◌, refl}
use lib.ListN.{replicate}
use Rattle.machine.specs.Machine.{fresh}
use Rattle.words.specs.Words.{settings_of, record_of, word_count}

pub fresh-words : record_of (replicate word_count 0) ≡ fresh
unfolding record_of settings_of
fresh-words = refl
