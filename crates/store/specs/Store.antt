-- Which field of the record has which number: each field after a value is stored to the field with number f. In the crate
-- `fields`, Largest.antt has the numbers again, in ranges, with the largest value of each, and Set.antt the tests of the set
-- command; here is none.
use Rattle.std.specs.Prelude.{ℕ, ◌+◌, ◌-◌, Bool, cond, ◌&&◌, List, set, leb, eqb}
use Rattle.machine.specs.declared.Features.{Features}
use Rattle.machine.specs.declared.Execution.{Execution}
use Rattle.machine.specs.declared.Pmcr.{Pmcr}
use Rattle.machine.specs.declared.Pmuserenr.{Pmuserenr}
use Rattle.machine.specs.declared.Hcr.{Hcr}
use Rattle.machine.specs.declared.Mdcr2.{Mdcr2}
use Rattle.machine.specs.declared.Mdcr3.{Mdcr3}
use Rattle.machine.specs.declared.Scr.{Scr}
use Rattle.machine.specs.declared.Hdfgrtr.{Hdfgrtr}
use Rattle.machine.specs.declared.Hdfgwtr.{Hdfgwtr}
use Rattle.machine.specs.declared.Pmuacr.{Pmuacr}
use Rattle.machine.specs.declared.Sampling.{Sampling}
use Rattle.machine.specs.declared.External.{External}
use Rattle.machine.specs.declared.Settings.{Settings}
use Rattle.machine.specs.declared.Values.{Values}
use Rattle.machine.specs.declared.Machine.{Machine}

-- MODEL F1: a number from low to high, both included
abbrev pub within : ℕ → ℕ → ℕ → Bool
within low high f = leb low f && leb f high

-- MODEL F20: the one-bit field number k after v is stored to field f: v where f is k, else as it was
abbrev pub flag : ℕ → ℕ → ℕ → Bool → Bool
flag k f v old = cond (eqb f k) (eqb v 1) old

-- MODEL F20: the same of a field that holds a number
abbrev pub number : ℕ → ℕ → ℕ → ℕ → ℕ
number k f v old = cond (eqb f k) v old

-- MODEL F2: fields 00 to 0C, 80 and 81
unfoldable pub store_features : ℕ → ℕ → Features → Features
store_features f v s =
    record {
      pmuv3 = flag 0x00 f v s.pmuv3;
      p5 = flag 0x01 f v s.p5;
      p9 = flag 0x02 f v s.p9;
      icntr = flag 0x03 f v s.icntr;
      fgt = flag 0x04 f v s.fgt;
      fgt2 = flag 0x05 f v s.fgt2;
      hpmn0 = flag 0x06 f v s.hpmn0;
      ext32 = flag 0x07 f v s.ext32;
      ext64 = flag 0x08 f v s.ext64;
      el2 = flag 0x09 f v s.el2;
      el3 = flag 0x0A f v s.el3;
      el3prio = flag 0x0B f v s.el3prio;
      spe = flag 0x80 f v s.spe;
      ernd = flag 0x81 f v s.ernd;
      n = number 0x0C f v s.n;
    }

-- MODEL F3: fields 10 to 12
abbrev pub store_execution : ℕ → ℕ → Execution → Execution
store_execution f v s =
    record {
      el2enabled = flag 0x10 f v s.el2enabled;
      halted = flag 0x11 f v s.halted;
      sdd = flag 0x12 f v s.sdd;
    }

-- MODEL F4: fields 20 to 23 and 31
abbrev pub store_pmuserenr : ℕ → ℕ → Pmuserenr → Pmuserenr
store_pmuserenr f v s =
    record {
      en = flag 0x20 f v s.en;
      sw = flag 0x21 f v s.sw;
      er = flag 0x22 f v s.er;
      uen = flag 0x23 f v s.uen;
      ir = flag 0x31 f v s.ir;
    }

-- MODEL F5: fields 24, 25, 84 and 85
abbrev pub store_hcr : ℕ → ℕ → Hcr → Hcr
store_hcr f v s =
    record {
      e2h = flag 0x24 f v s.e2h;
      tge = flag 0x25 f v s.tge;
      nv = flag 0x84 f v s.nv;
      nv2 = flag 0x85 f v s.nv2;
    }

-- MODEL F6: fields 26, 27, 36, 3E and 86
unfoldable pub store_mdcr2 : ℕ → ℕ → Mdcr2 → Mdcr2
store_mdcr2 f v s =
    record {
      tpm = flag 0x26 f v s.tpm;
      hpme = flag 0x3E f v s.hpme;
      hlp = flag 0x36 f v s.hlp;
      tpms = flag 0x86 f v s.tpms;
      hpmn = number 0x27 f v s.hpmn;
    }

-- MODEL F7: fields 28, 29 and 88
unfoldable pub store_mdcr3 : ℕ → ℕ → Mdcr3 → Mdcr3
store_mdcr3 f v s =
    record { tpm = flag 0x28 f v s.tpm; enpm2 = flag 0x29 f v s.enpm2; nspb = number 0x88 f v s.nspb }

-- MODEL F8: fields 2A, 2B and 87
abbrev pub store_scr : ℕ → ℕ → Scr → Scr
store_scr f v s =
    record { fgten = flag 0x2A f v s.fgten; fgten2 = flag 0x2B f v s.fgten2; ns = flag 0x87 f v s.ns }

-- MODEL F9: fields 2C, 2F and 89
abbrev pub store_hdfgrtr : ℕ → ℕ → Hdfgrtr → Hdfgrtr
store_hdfgrtr f v s =
    record {
      pmevcntrn = flag 0x2C f v s.pmevcntrn;
      pmsicr = flag 0x89 f v s.pmsicr;
      npmicntr = flag 0x2F f v s.npmicntr;
    }

-- MODEL F10: fields 2D, 2E, 30 and 8A
abbrev pub store_hdfgwtr : ℕ → ℕ → Hdfgwtr → Hdfgwtr
store_hdfgwtr f v s =
    record {
      pmevcntrn = flag 0x2D f v s.pmevcntrn;
      pmswinc = flag 0x2E f v s.pmswinc;
      pmsicr = flag 0x8A f v s.pmsicr;
      npmicntr = flag 0x30 f v s.npmicntr;
    }

-- MODEL F11: fields 32 and 33
unfoldable pub store_pmuacr : ℕ → ℕ → Pmuacr → Pmuacr
store_pmuacr f v s = record { p = number 0x32 f v s.p; f0 = flag 0x33 f v s.f0 }

-- MODEL F23: fields 82, 83 and 8B
unfoldable pub store_sampling : ℕ → ℕ → Sampling → Sampling
store_sampling f v s =
    record {
      rnd = flag 0x82 f v s.rnd;
      profiling = flag 0x83 f v s.profiling;
      reload = number 0x8B f v s.reload;
    }

-- MODEL F21: fields 35 and 3D
abbrev pub store_pmcr : ℕ → ℕ → Pmcr → Pmcr
store_pmcr f v s = record { e = flag 0x3D f v s.e; lp = flag 0x35 f v s.lp }

-- MODEL F13: fields 38 to 3C
abbrev pub store_external : ℕ → ℕ → External → External
store_external f v s =
    record {
      powered = flag 0x38 f v s.powered;
      doublelock = flag 0x39 f v s.doublelock;
      oslock = flag 0x3A f v s.oslock;
      allowed = flag 0x3B f v s.allowed;
      softwarelock = flag 0x3C f v s.softwarelock;
    }

-- MODEL F2 to F13, F21 and F23: fields 00 to 3E without the overflow flags, and 80 to 8B; the counter enables (MODEL F12) are
-- field 34
unfoldable pub store_settings : ℕ → ℕ → Settings → Settings
store_settings f v s =
    record {
      features = store_features f v s.features;
      execution = store_execution f v s.execution;
      pmcr = store_pmcr f v s.pmcr;
      pmuserenr = store_pmuserenr f v s.pmuserenr;
      hcr = store_hcr f v s.hcr;
      mdcr2 = store_mdcr2 f v s.mdcr2;
      mdcr3 = store_mdcr3 f v s.mdcr3;
      scr = store_scr f v s.scr;
      hdfgrtr = store_hdfgrtr f v s.hdfgrtr;
      hdfgwtr = store_hdfgwtr f v s.hdfgwtr;
      pmuacr = store_pmuacr f v s.pmuacr;
      sampling = store_sampling f v s.sampling;
      cnten = number 0x34 f v s.cnten;
      external = store_external f v s.external;
    }

-- MODEL F14 and F15: a list of 31 values whose fields begin at first: element f - first takes v
abbrev pub store_list : {A : Type 0} → ℕ → ℕ → A → List A → List A
store_list first f v l = cond (within first (first + 30) f) (set l (f - first) v) l

-- MODEL F16, F22 and F24: the instruction counter is field 7F, the overflow flags are field 37, PMSICR_EL1 is 8C and the word
-- at 0x838 is 8D
abbrev pub store_values : ℕ → ℕ → Values → Values
store_values f v s =
    record {
      instructions = number 0x7F f v s.instructions;
      ovs = number 0x37 f v s.ovs;
      pmsicr = number 0x8C f v s.pmsicr;
      nvmem = number 0x8D f v s.nvmem;
    }

-- MODEL F20: every field; event numbers are 40 to 5E, event counters 60 to 7E
unfoldable pub store : ℕ → ℕ → Machine → Machine
store f v m =
    record {
      level = m.level;
      settings = store_settings f v m.settings;
      events = store_list 0x40 f v m.events;
      counters = store_list 0x60 f v m.counters;
      values = store_values f v m.values;
    }
