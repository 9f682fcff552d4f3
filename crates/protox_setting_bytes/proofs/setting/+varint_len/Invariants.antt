use Rattle.protox_setting_bytes.proofs.setting.+varint_len.Given as goal

abbrev pub decreases-varint_len : goal.decreases-varint_len
decreases-varint_len l = l.n
