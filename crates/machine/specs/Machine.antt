-- The fresh record, and records that differ from a given one in a single part.
use Rattle.std.specs.Prelude.{ℕ, false, List, replicate}
use Rattle.machine.specs.declared.Features.{Features}
use Rattle.machine.specs.declared.Settings.{Settings}
use Rattle.machine.specs.declared.Values.{Values}
use Rattle.machine.specs.declared.Machine.{Machine}

-- MODEL F2 and F18: what the processor implements, in the fresh record
abbrev pub fresh_features : Features
fresh_features =
    record {
      pmuv3 = false;
      p5 = false;
      p9 = false;
      icntr = false;
      fgt = false;
      fgt2 = false;
      hpmn0 = false;
      ext32 = false;
      ext64 = false;
      el2 = false;
      el3 = false;
      el3prio = false;
      spe = false;
      ernd = false;
      n = 0;
    }

-- MODEL F2 to F13, F18, F21 and F23: the settings of the fresh record
abbrev pub fresh_settings : Settings
fresh_settings =
    record {
      features = fresh_features;
      execution = record { el2enabled = false; halted = false; sdd = false };
      pmcr = record { e = false; lp = false };
      pmuserenr = record { en = false; sw = false; er = false; uen = false; ir = false };
      hcr = record { e2h = false; tge = false; nv = false; nv2 = false };
      mdcr2 = record { tpm = false; hpme = false; hlp = false; tpms = false; hpmn = 0 };
      mdcr3 = record { tpm = false; enpm2 = false; nspb = 0 };
      scr = record { fgten = false; fgten2 = false; ns = false };
      hdfgrtr = record { pmevcntrn = false; pmsicr = false; npmicntr = false };
      hdfgwtr = record { pmevcntrn = false; pmswinc = false; pmsicr = false; npmicntr = false };
      pmuacr = record { p = 0; f0 = false };
      sampling = record { rnd = false; profiling = false; reload = 0 };
      cnten = 0;
      external = record { powered = false; doublelock = false; oslock = false; allowed = false; softwarelock = false };
    }

-- MODEL F16, F18, F22 and F24: the values of the fresh record beside the event counters
abbrev pub fresh_values : Values
fresh_values = record { instructions = 0; ovs = 0; pmsicr = 0; nvmem = 0 }

-- MODEL F18: the fresh record, in which all is 0
abbrev pub fresh : Machine
fresh =
    record {
      level = 0;
      settings = fresh_settings;
      events = replicate 31 0;
      counters = replicate 31 0;
      values = fresh_values;
    }

-- MODEL F1: the record with these parts
abbrev pub machine_of : ℕ → Settings → List ℕ → List ℕ → Values → Machine
machine_of l s e c v = record { level = l; settings = s; events = e; counters = c; values = v }

-- MODEL F17 and F20: the record with its level put to l
abbrev pub with_level : ℕ → Machine → Machine
with_level l m = machine_of l m.settings m.events m.counters m.values

-- MODEL F15: the record with these event counters
abbrev pub with_counters : List ℕ → Machine → Machine
with_counters c m = machine_of m.level m.settings m.events c m.values

-- MODEL F16, F22 and F24: the record with these values beside the event counters
abbrev pub with_values : Values → Machine → Machine
with_values v m = machine_of m.level m.settings m.events m.counters v

-- MODEL F16: the record with this instruction counter
abbrev pub with_instructions : ℕ → Machine → Machine
with_instructions i m =
    let v = m.values in
    with_values (record { instructions = i; ovs = v.ovs; pmsicr = v.pmsicr; nvmem = v.nvmem }) m

-- MODEL F22: the record with these overflow flags
abbrev pub with_ovs : ℕ → Machine → Machine
with_ovs o m =
    let v = m.values in
    with_values (record { instructions = v.instructions; ovs = o; pmsicr = v.pmsicr; nvmem = v.nvmem }) m

-- MODEL F24: the record with this PMSICR_EL1
abbrev pub with_pmsicr : ℕ → Machine → Machine
with_pmsicr x m =
    let v = m.values in
    with_values (record { instructions = v.instructions; ovs = v.ovs; pmsicr = x; nvmem = v.nvmem }) m

-- MODEL F24: the record with this word at 0x838
abbrev pub with_nvmem : ℕ → Machine → Machine
with_nvmem x m =
    let v = m.values in
    with_values (record { instructions = v.instructions; ovs = v.ovs; pmsicr = v.pmsicr; nvmem = x }) m
