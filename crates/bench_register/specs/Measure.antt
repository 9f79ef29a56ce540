-- The measured loop: the registers of a list of words, and a sum over them, so that none can be left out.
use Rattle.std.specs.Prelude.{ℕ, ◌+◌, ◌%◌, ◌^◌, List, [], ◌∷◌}
use Rattle.rules.specs.declared.Register.{Register}
use Rattle.rules.specs.Word.{decode}

-- MODEL X9: what a register adds to the sum
abbrev pub worth : Register → ℕ
worth (Register.Pmevcntr m) = m
worth Register.Pmswinc = 32
worth Register.Pmicntr = 33
worth Register.Pmsicr = 35
worth Register.Other = 34

-- MODEL X9: an entry as a word: bits 31:0
abbrev pub word_of : ℕ → ℕ
word_of c = c % 2 ^ 32

-- MODEL X9: the sum of the registers that a list of words names
abbrev pub sum_of : List ℕ → ℕ
sum_of [] = 0
sum_of (c ∷ rest) = worth (decode (word_of c)).register + sum_of rest

-- MODEL X9: the same, modulo 2^64
unfoldable pub total : List ℕ → ℕ
total list = sum_of list % 2 ^ 64
