-- Examples of members of the sample population and of profiling that begins, as data. The register is 8C, the reload value 8B.
use Rattle.std.specs.Prelude.{List, [], ◌∷◌}
use Rattle.answer.specs.declared.Answer.{Answer}
use Rattle.answer.specs.declared.Refusal.TheVariants.{UnknownField, ValueTooLarge, HpmnAboveN}
use Rattle.rules.specs.Example.{Example, shows, answers, changes, profiling_on}
use Rattle.rules.specs.Example.Action.{members, sets}

-- MODEL P12: for J5 to J9
unfoldable pub member_examples : List Example
member_examples =
    -- MODEL J5: without SPE, and while profiling is 0. MODEL V3: the record is tested first
    answers ((0x83, 1) ∷ (0x8C, 1) ∷ []) 1 (members 0) Answer.Ok
    ∷ answers ((0x80, 1) ∷ (0x8C, 1) ∷ []) 1 (members 0) Answer.Ok
    ∷ answers (profiling_on ((0x8C, 1) ∷ (0x27, 7) ∷ [])) 1 (members 0) (Answer.Refused HpmnAboveN)
    -- MODEL J7: at 0 the primary counter stays; above 1 it loses 1; from 1 it is reloaded, with 0 too, and the member is selected
    ∷ answers (profiling_on ((0x8B, 9) ∷ (0x8C, 0) ∷ [])) 1 (members 0) Answer.Ok
    ∷ changes (profiling_on ((0x8B, 9) ∷ (0x8C, 2) ∷ [])) 1 (members 0) ((0x8C, 1) ∷ [])
    ∷ changes (profiling_on ((0x8B, 9) ∷ (0x8C, 0xFFFFFFFF) ∷ [])) 0 (members 0) ((0x8C, 0xFFFFFFFE) ∷ [])
    ∷ shows (profiling_on ((0x8B, 9) ∷ (0x8C, 1) ∷ [])) 1 (members 5 ∷ []) (Answer.Sampled ∷ []) ((0x8C, 9) ∷ [])
    ∷ shows (profiling_on ((0x8C, 1) ∷ []))
    1
    (members 5 ∷ members 5 ∷ [])
    (Answer.Sampled ∷ Answer.Ok ∷ [])
    ((0x8C, 0) ∷ [])
    -- MODEL J6: the secondary counter, with ERnd; 1 selects. Without ERnd there is none
    ∷ shows (profiling_on ((0x81, 1) ∷ (0x8C, 0x0200000000000000) ∷ []))
    1
    (members 5 ∷ members 5 ∷ members 5 ∷ [])
    (Answer.Ok ∷ Answer.Sampled ∷ Answer.Ok ∷ [])
    ((0x8C, 0) ∷ [])
    ∷ answers (profiling_on ((0x8C, 0x0100000000000000) ∷ [])) 1 (members 5) Answer.Ok
    -- MODEL J6, J7: both lose 1 for one member
    ∷ changes (profiling_on ((0x81, 1) ∷ (0x8C, 0x0300000000000008) ∷ [])) 1 (members 5) ((0x8C, 0x0200000000000007) ∷ [])
    -- MODEL J8: with ERnd and RND the draw goes to the secondary counter; 0 selects at once, and 255 does not
    ∷ changes (profiling_on ((0x81, 1) ∷ (0x82, 1) ∷ (0x8B, 9) ∷ (0x8C, 1) ∷ []))
    1
    (members 255)
    ((0x8C, 0xFF00000000000009) ∷ [])
    ∷ shows (profiling_on ((0x81, 1) ∷ (0x82, 1) ∷ (0x8B, 9) ∷ (0x8C, 1) ∷ []))
    1
    (members 0 ∷ [])
    (Answer.Sampled ∷ [])
    ((0x8C, 9) ∷ [])
    -- MODEL J8: not with one of the two alone
    ∷ shows (profiling_on ((0x81, 1) ∷ (0x8B, 9) ∷ (0x8C, 1) ∷ [])) 1 (members 5 ∷ []) (Answer.Sampled ∷ []) ((0x8C, 9) ∷ [])
    ∷ shows (profiling_on ((0x82, 1) ∷ (0x8B, 9) ∷ (0x8C, 1) ∷ [])) 1 (members 5 ∷ []) (Answer.Sampled ∷ []) ((0x8C, 9) ∷ [])
    -- MODEL J6, J8: the secondary counter counts first, and what is left of it gives way to the draw
    ∷ changes (profiling_on ((0x81, 1) ∷ (0x82, 1) ∷ (0x8B, 9) ∷ (0x8C, 0x0300000000000001) ∷ []))
    1
    (members 5)
    ((0x8C, 0x0500000000000009) ∷ [])
    -- MODEL J9: both reach 0 for one member: selected by the secondary counter, and the draw stays for the next
    ∷ shows (profiling_on ((0x81, 1) ∷ (0x82, 1) ∷ (0x8B, 9) ∷ (0x8C, 0x0100000000000001) ∷ []))
    1
    (members 1 ∷ members 5 ∷ [])
    (Answer.Sampled ∷ Answer.Sampled ∷ [])
    ((0x8C, 8) ∷ [])
    -- MODEL J3: reserved bits stay as a set has put them
    ∷ shows (profiling_on ((0x8B, 9) ∷ (0x8C, 0xAAFFFFFF00000001) ∷ []))
    1
    (members 5 ∷ [])
    (Answer.Sampled ∷ [])
    ((0x8C, 0xAAFFFFFF00000009) ∷ [])
    ∷ changes (profiling_on ((0x81, 1) ∷ (0x8C, 0x02FFFFFF00000003) ∷ [])) 1 (members 5) ((0x8C, 0x01FFFFFF00000002) ∷ [])
    ∷ []

-- MODEL P12: for J4, and R3 and R4 of the fields from 80 on
unfoldable pub start_examples : List Example
start_examples =
    -- MODEL J4: a zero register; one that is not, by either counter
    changes ((0x80, 1) ∷ (0x8B, 9) ∷ []) 1 (sets 0x83 1) (profiling_on ((0x8C, 9) ∷ []))
    ∷ changes ((0x80, 1) ∷ (0x8B, 9) ∷ (0x8C, 1) ∷ []) 1 (sets 0x83 1) (profiling_on [])
    ∷ changes ((0x80, 1) ∷ (0x81, 1) ∷ (0x8B, 9) ∷ (0x8C, 0x0100000000000000) ∷ []) 1 (sets 0x83 1) (profiling_on [])
    -- MODEL J4: not of 1 over 1, not of 0, not without SPE, not by SPE
    ∷ answers (profiling_on ((0x8B, 9) ∷ [])) 1 (sets 0x83 1) Answer.Ok
    ∷ changes (profiling_on ((0x8B, 9) ∷ [])) 1 (sets 0x83 0) ((0x83, 0) ∷ [])
    ∷ changes ((0x8B, 9) ∷ []) 1 (sets 0x83 1) ((0x83, 1) ∷ [])
    ∷ changes ((0x83, 1) ∷ (0x8B, 9) ∷ []) 1 (sets 0x80 1) ((0x80, 1) ∷ [])
    -- MODEL J4: again after 1 to 0; on a record that is not consistent too
    ∷ shows (profiling_on ((0x8B, 9) ∷ []))
    1
    (sets 0x83 0 ∷ sets 0x83 1 ∷ [])
    (Answer.Ok ∷ Answer.Ok ∷ [])
    ((0x8C, 9) ∷ [])
    ∷ changes ((0x27, 7) ∷ (0x80, 1) ∷ (0x8B, 9) ∷ []) 1 (sets 0x83 1) (profiling_on ((0x8C, 9) ∷ []))
    -- MODEL R4, R3: one above the largest, and past the last field
    ∷ answers [] 1 (sets 0x80 2) (Answer.Refused ValueTooLarge)
    ∷ answers ((0x80, 1) ∷ []) 1 (sets 0x83 2) (Answer.Refused ValueTooLarge)
    ∷ answers [] 1 (sets 0x88 4) (Answer.Refused ValueTooLarge)
    ∷ answers [] 1 (sets 0x8A 2) (Answer.Refused ValueTooLarge)
    ∷ answers [] 1 (sets 0x8B 0x100000000) (Answer.Refused ValueTooLarge)
    ∷ changes [] 1 (sets 0x8D 0xFFFFFFFFFFFFFFFF) ((0x8D, 0xFFFFFFFFFFFFFFFF) ∷ [])
    ∷ answers [] 1 (sets 0x8E 0) (Answer.Refused UnknownField)
    ∷ []
