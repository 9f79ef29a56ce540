-- The machine in words of a caller's: word k is the field with number k, and one word more is the level. Whatever the words are,
-- they hold a record.
use Rattle.std.specs.Prelude.{ℕ, ◌%◌, ◌^◌, Bool, List, map, eqb, get_or, take, drop}
use Rattle.machine.specs.declared.Execution.{Execution}
use Rattle.machine.specs.declared.External.{External}
use Rattle.machine.specs.declared.Features.{Features}
use Rattle.machine.specs.declared.Hcr.{Hcr}
use Rattle.machine.specs.declared.Hdfgrtr.{Hdfgrtr}
use Rattle.machine.specs.declared.Hdfgwtr.{Hdfgwtr}
use Rattle.machine.specs.declared.Machine.{Machine}
use Rattle.machine.specs.declared.Mdcr2.{Mdcr2}
use Rattle.machine.specs.declared.Mdcr3.{Mdcr3}
use Rattle.machine.specs.declared.Pmcr.{Pmcr}
use Rattle.machine.specs.declared.Pmuacr.{Pmuacr}
use Rattle.machine.specs.declared.Pmuserenr.{Pmuserenr}
use Rattle.machine.specs.declared.Sampling.{Sampling}
use Rattle.machine.specs.declared.Scr.{Scr}
use Rattle.machine.specs.declared.Settings.{Settings}
use Rattle.machine.specs.declared.Values.{Values}
use Rattle.machine.specs.Machine.{machine_of}

-- MODEL X13: the word of the level, behind those of the fields 00 to 8D
abbrev pub level_word : ℕ
level_word = 0x8E

-- MODEL X13: how many words there are
abbrev pub word_count : ℕ
word_count = 143

-- MODEL X13: the word with this number
abbrev pub word : List ℕ → ℕ → ℕ
word s k = get_or s k 0

-- MODEL X13: the field of one bit with this number, of words by number: the lowest bit of its word
abbrev pub on : ℕ → (ℕ → ℕ) → Bool
on k w = eqb (w k % 2) 1

-- MODEL F2 and X13: fields 00 to 0C, 80 and 81
abbrev pub features_of : (ℕ → ℕ) → Features
features_of w =
    record {
      pmuv3 = on 0x00 w;
      p5 = on 0x01 w;
      p9 = on 0x02 w;
      icntr = on 0x03 w;
      fgt = on 0x04 w;
      fgt2 = on 0x05 w;
      hpmn0 = on 0x06 w;
      ext32 = on 0x07 w;
      ext64 = on 0x08 w;
      el2 = on 0x09 w;
      el3 = on 0x0A w;
      el3prio = on 0x0B w;
      spe = on 0x80 w;
      ernd = on 0x81 w;
      n = w 0x0C;
    }

-- MODEL F3 and X13: fields 10 to 12
abbrev pub execution_of : (ℕ → ℕ) → Execution
execution_of w = record { el2enabled = on 0x10 w; halted = on 0x11 w; sdd = on 0x12 w }

-- MODEL F21 and X13: fields 35 and 3D
abbrev pub pmcr_of : (ℕ → ℕ) → Pmcr
pmcr_of w = record { e = on 0x3D w; lp = on 0x35 w }

-- MODEL F4 and X13: fields 20 to 23 and 31
abbrev pub pmuserenr_of : (ℕ → ℕ) → Pmuserenr
pmuserenr_of w = record { en = on 0x20 w; sw = on 0x21 w; er = on 0x22 w; uen = on 0x23 w; ir = on 0x31 w }

-- MODEL F5 and X13: fields 24, 25, 84 and 85
abbrev pub hcr_of : (ℕ → ℕ) → Hcr
hcr_of w = record { e2h = on 0x24 w; tge = on 0x25 w; nv = on 0x84 w; nv2 = on 0x85 w }

-- MODEL F6 and X13: fields 26, 27, 36, 3E and 86
abbrev pub mdcr2_of : (ℕ → ℕ) → Mdcr2
mdcr2_of w = record { tpm = on 0x26 w; hpme = on 0x3E w; hlp = on 0x36 w; tpms = on 0x86 w; hpmn = w 0x27 }

-- MODEL F7 and X13: fields 28, 29 and 88
abbrev pub mdcr3_of : (ℕ → ℕ) → Mdcr3
mdcr3_of w = record { tpm = on 0x28 w; enpm2 = on 0x29 w; nspb = w 0x88 }

-- MODEL F8 and X13: fields 2A, 2B and 87
abbrev pub scr_of : (ℕ → ℕ) → Scr
scr_of w = record { fgten = on 0x2A w; fgten2 = on 0x2B w; ns = on 0x87 w }

-- MODEL F9 and X13: fields 2C, 2F and 89
abbrev pub hdfgrtr_of : (ℕ → ℕ) → Hdfgrtr
hdfgrtr_of w = record { pmevcntrn = on 0x2C w; pmsicr = on 0x89 w; npmicntr = on 0x2F w }

-- MODEL F10 and X13: fields 2D, 2E, 30 and 8A
abbrev pub hdfgwtr_of : (ℕ → ℕ) → Hdfgwtr
hdfgwtr_of w = record { pmevcntrn = on 0x2D w; pmswinc = on 0x2E w; pmsicr = on 0x8A w; npmicntr = on 0x30 w }

-- MODEL F11 and X13: fields 32 and 33
abbrev pub pmuacr_of : (ℕ → ℕ) → Pmuacr
pmuacr_of w = record { p = w 0x32; f0 = on 0x33 w }

-- MODEL F23 and X13: fields 82, 83 and 8B
abbrev pub sampling_of : (ℕ → ℕ) → Sampling
sampling_of w = record { rnd = on 0x82 w; profiling = on 0x83 w; reload = w 0x8B }

-- MODEL F13 and X13: fields 38 to 3C
abbrev pub external_of : (ℕ → ℕ) → External
external_of w =
    record {
      powered = on 0x38 w;
      doublelock = on 0x39 w;
      oslock = on 0x3A w;
      allowed = on 0x3B w;
      softwarelock = on 0x3C w;
    }

-- MODEL F2 to F13, F21, F23 and X13: the settings
unfoldable pub settings_of : (ℕ → ℕ) → Settings
settings_of w =
    record {
      features = features_of w;
      execution = execution_of w;
      pmcr = pmcr_of w;
      pmuserenr = pmuserenr_of w;
      hcr = hcr_of w;
      mdcr2 = mdcr2_of w;
      mdcr3 = mdcr3_of w;
      scr = scr_of w;
      hdfgrtr = hdfgrtr_of w;
      hdfgwtr = hdfgwtr_of w;
      pmuacr = pmuacr_of w;
      sampling = sampling_of w;
      cnten = w 0x34;
      external = external_of w;
    }

-- MODEL F16, F22, F24 and X13: fields 7F, 37, 8C and 8D
abbrev pub values_of : (ℕ → ℕ) → Values
values_of w = record { instructions = w 0x7F; ovs = w 0x37; pmsicr = w 0x8C; nvmem = w 0x8D }

-- MODEL F14 and X13: an event number is the lowest 16 bits of its word
abbrev pub low : ℕ → ℕ
low e = e % 2 ^ 16

-- MODEL F14 and X13: fields 40 to 5E
abbrev pub events_of : List ℕ → List ℕ
events_of s = map low (take 31 (drop 0x40 s))

-- MODEL F15 and X13: fields 60 to 7E
abbrev pub counters_of : List ℕ → List ℕ
counters_of s = take 31 (drop 0x60 s)

-- MODEL F17 and X13: the level, the lowest 8 bits of its word
abbrev pub level_of : (ℕ → ℕ) → ℕ
level_of w = w level_word % 2 ^ 8

-- MODEL X13: the record that the words hold
unfoldable pub record_of : List ℕ → Machine
record_of s = machine_of (level_of (word s)) (settings_of (word s)) (events_of s) (counters_of s) (values_of (word s))
