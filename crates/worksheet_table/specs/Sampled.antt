-- A whole sheet for each way through the rules (R5), and four more: the question, every word of every line (the sixth, its mark, apart) and
-- the foot. The words come from implementations that share nothing with the two accounts of R5: a model in whole numbers, and the
-- processor's floats. Which pattern a NaN result has is the rule's in both.
-- A way's sample is named by its row of Table. Operands and results of a sample differ where such a question was found, and have both
-- signs, so that a line with another operand is, most often, another line.
use Rattle.std.specs.Prelude.{ℕ, ◌≡◌, List, [], ◌∷◌}
use Rattle.augmented_spec.specs.declared.Operation.{Operation}
use Rattle.augmented_spec.specs.declared.Operation.TheVariants.{Sum as sum, Difference as difference, Product as product}
use Rattle.worksheet_spec.specs.declared.Step.TheVariants.{Add as add, Subtract as subtract, Multiply as multiply}
use Rattle.worksheet_spec.specs.Lines.{Line, line, fused_line, marks, Sheet, minus}
use Rattle.worksheet_spec.specs.Sheets.{sheet_of}
use Rattle.worksheet_table.specs.Table.{sheet_by_table}

-- x, y, the lines, their marks (R2.8), and the foot's two halves
pub data Sample : Type 0 where
  sample : ℕ → ℕ → List Line → List ℕ → ℕ → ℕ → Sample

-- ---- sums
abbrev pub sum_nan_sheet : Sample
sum_nan_sheet =
    sample 0xff81_2345 0x7fc0_0001
    (line add 0xff81_2345 0x7fc0_0001 0xffc1_2345
    ∷ [])
    (2 ∷ [])
    0xffc1_2345 0xffc1_2345

abbrev pub sum_changed_sheet : Sample
sum_changed_sheet =
    sample 0xca9a_b280 0xc444_7000
    (line add 0xca9a_b280 0xc444_7000 0xca9a_b8a4
    ∷ line subtract 0xca9a_b8a4 0xca9a_b280 0xc444_8000
    ∷ line subtract 0xc444_7000 0xc444_8000 0x3e80_0000
    ∷ line multiply 0x3f7f_ffff 0xca9a_b8a4 0xca9a_b8a3
    ∷ line subtract 0xca9a_b8a3 0xca9a_b8a4 0x3f00_0000
    ∷ line multiply 0x4000_0000 0x3e80_0000 0x3f00_0000
    ∷ [])
    (1 ∷ 0 ∷ 0 ∷ 1 ∷ 0 ∷ 0 ∷ [])
    0xca9a_b8a3 0xbe80_0000

abbrev pub sum_changed_zero_sheet : Sample
sum_changed_zero_sheet =
    sample 0x8000_0298 0x0000_00a0
    (line add 0x8000_0298 0x0000_00a0 0x8000_01f8
    ∷ line subtract 0x8000_01f8 0x8000_0298 0x0000_00a0
    ∷ line subtract 0x0000_00a0 0x0000_00a0 0x0000_0000
    ∷ line multiply 0x3f7f_ffff 0x8000_01f8 0x8000_01f8
    ∷ line subtract 0x8000_01f8 0x8000_01f8 0x0000_0000
    ∷ line multiply 0x4000_0000 0x0000_0000 0x0000_0000
    ∷ line multiply 0x0000_0000 0x8000_01f8 0x8000_0000
    ∷ [])
    (0 ∷ 0 ∷ 0 ∷ 1 ∷ 0 ∷ 0 ∷ 0 ∷ [])
    0x8000_01f8 0x8000_0000

abbrev pub sum_kept_sheet : Sample
sum_kept_sheet =
    sample 0xc99c_c000 0x4123_7000
    (line add 0xc99c_c000 0x4123_7000 0xc99c_bfae
    ∷ line subtract 0xc99c_bfae 0xc99c_c000 0x4124_0000
    ∷ line subtract 0x4123_7000 0x4124_0000 0xbd10_0000
    ∷ line multiply 0x3f7f_ffff 0xc99c_bfae 0xc99c_bfad
    ∷ line subtract 0xc99c_bfad 0xc99c_bfae 0x3e00_0000
    ∷ line multiply 0x4000_0000 0xbd10_0000 0xbd90_0000
    ∷ [])
    (1 ∷ 0 ∷ 0 ∷ 1 ∷ 0 ∷ 0 ∷ [])
    0xc99c_bfae 0xbd10_0000

abbrev pub sum_kept_zero_sheet : Sample
sum_kept_zero_sheet =
    sample 0xff20_0000 0x7620_0000
    (line add 0xff20_0000 0x7620_0000 0xff1f_ffd8
    ∷ line subtract 0xff1f_ffd8 0xff20_0000 0x7620_0000
    ∷ line subtract 0x7620_0000 0x7620_0000 0x0000_0000
    ∷ line multiply 0x3f7f_ffff 0xff1f_ffd8 0xff1f_ffd7
    ∷ line subtract 0xff1f_ffd7 0xff1f_ffd8 0x7380_0000
    ∷ line multiply 0x4000_0000 0x0000_0000 0x0000_0000
    ∷ line multiply 0x0000_0000 0xff1f_ffd8 0x8000_0000
    ∷ [])
    (0 ∷ 0 ∷ 0 ∷ 1 ∷ 0 ∷ 0 ∷ 0 ∷ [])
    0xff1f_ffd8 0x8000_0000

abbrev pub sum_infinite_sheet : Sample
sum_infinite_sheet =
    sample 0xff6b_8000 0xfe10_e4c6
    (line add 0xff6b_8000 0xfe10_e4c6 0xff80_0000
    ∷ line subtract 0xff80_0000 0xff6b_8000 0xff80_0000
    ∷ line subtract 0xfe10_e4c6 0xff80_0000 0x7f80_0000
    ∷ line multiply 0x3f7f_ffff 0xff80_0000 0xff80_0000
    ∷ line subtract 0xff80_0000 0xff80_0000 0x7fc0_0000
    ∷ line multiply 0x4000_0000 0x7f80_0000 0x7f80_0000
    ∷ line multiply 0x3f00_0000 0xff6b_8000 0xfeeb_8000
    ∷ line multiply 0x3f00_0000 0xfe10_e4c6 0xfd90_e4c6
    ∷ line add 0xfeeb_8000 0xfd90_e4c6 0xff07_dc99
    ∷ line subtract 0xff07_dc99 0xfeeb_8000 0xfd90_e4c8
    ∷ line subtract 0xfd90_e4c6 0xfd90_e4c8 0x7280_0000
    ∷ [])
    (1 ∷ 2 ∷ 2 ∷ 2 ∷ 2 ∷ 2 ∷ 0 ∷ 0 ∷ 1 ∷ 0 ∷ 0 ∷ [])
    0xff80_0000 0xff80_0000

abbrev pub sum_edge_sheet : Sample
sum_edge_sheet =
    sample 0xff7f_f409 0xf93f_6800
    (line add 0xff7f_f409 0xf93f_6800 0xff80_0000
    ∷ line subtract 0xff80_0000 0xff7f_f409 0xff80_0000
    ∷ line subtract 0xf93f_6800 0xff80_0000 0x7f80_0000
    ∷ line multiply 0x3f7f_ffff 0xff80_0000 0xff80_0000
    ∷ line subtract 0xff80_0000 0xff80_0000 0x7fc0_0000
    ∷ line multiply 0x4000_0000 0x7f80_0000 0x7f80_0000
    ∷ line multiply 0x3f00_0000 0xff7f_f409 0xfeff_f409
    ∷ line multiply 0x3f00_0000 0xf93f_6800 0xf8bf_6800
    ∷ line add 0xfeff_f409 0xf8bf_6800 0xff00_0000
    ∷ line subtract 0xff00_0000 0xfeff_f409 0xf8bf_7000
    ∷ line subtract 0xf8bf_6800 0xf8bf_7000 0x7280_0000
    ∷ line multiply 0x3fff_ffff 0xff00_0000 0xff7f_ffff
    ∷ line multiply 0xc000_0000 0x7280_0000 0xf300_0000
    ∷ [])
    (1 ∷ 2 ∷ 2 ∷ 2 ∷ 2 ∷ 2 ∷ 0 ∷ 0 ∷ 1 ∷ 0 ∷ 0 ∷ 0 ∷ 0 ∷ [])
    0xff7f_ffff 0xf300_0000

-- ---- products
abbrev pub product_nan_sheet : Sample
product_nan_sheet =
    sample 0x8000_0000 0x7f81_2345
    (line multiply 0x8000_0000 0x7f81_2345 0x7fc1_2345
    ∷ [])
    (2 ∷ [])
    0x7fc1_2345 0x7fc1_2345

abbrev pub product_infinite_sheet : Sample
product_infinite_sheet =
    sample 0xea10_7b75 0x5516_50d7
    (line multiply 0xea10_7b75 0x5516_50d7 0xff80_0000
    ∷ line multiply 0x3f00_0000 0xea10_7b75 0xe990_7b75
    ∷ line multiply 0xe990_7b75 0x5516_50d7 0xff29_abed
    ∷ fused_line 0xe990_7b75 0x5516_50d7 0x7f29_abed 0x7138_17a0
    ∷ [])
    (1 ∷ 0 ∷ 1 ∷ 0 ∷ [])
    0xff80_0000 0xff80_0000

abbrev pub product_edge_sheet : Sample
product_edge_sheet =
    sample 0xdd96_4000 0x615a_1700
    (line multiply 0xdd96_4000 0x615a_1700 0xff80_0000
    ∷ line multiply 0x3f00_0000 0xdd96_4000 0xdd16_4000
    ∷ line multiply 0xdd16_4000 0x615a_1700 0xff00_0000
    ∷ fused_line 0xdd16_4000 0x615a_1700 0x7f00_0000 0x7280_0000
    ∷ line multiply 0x3fff_ffff 0xff00_0000 0xff7f_ffff
    ∷ line multiply 0xc000_0000 0x7280_0000 0xf300_0000
    ∷ [])
    (1 ∷ 0 ∷ 1 ∷ 0 ∷ 0 ∷ 0 ∷ [])
    0xff7f_ffff 0xf300_0000

abbrev pub product_zero_sheet : Sample
product_zero_sheet =
    sample 0x06c9_0000 0xacb4_c480
    (line multiply 0x06c9_0000 0xacb4_c480 0x8000_0000
    ∷ [])
    (1 ∷ [])
    0x8000_0000 0x8000_0000

abbrev pub tiny_lowered_sheet : Sample
tiny_lowered_sheet =
    sample 0x0cb8_0000 0xb096_4a00
    (line multiply 0x0cb8_0000 0xb096_4a00 0x8003_602a
    ∷ line multiply 0x4b80_0000 0x0cb8_0000 0x18b8_0000
    ∷ line multiply 0x4b80_0000 0xb096_4a00 0xbc96_4a00
    ∷ line multiply 0x18b8_0000 0xbc96_4a00 0x95d8_0a60
    ∷ fused_line 0x18b8_0000 0xbc96_4a00 0x15d8_0a60 0x0000_0000
    ∷ line multiply 0x5780_0000 0x8003_602a 0x95d8_0a80
    ∷ line subtract 0x95d8_0a60 0x95d8_0a80 0x0c80_0000
    ∷ line add 0x0000_0000 0x0c80_0000 0x0c80_0000
    ∷ line subtract 0x0c80_0000 0x0c80_0000 0x0000_0000
    ∷ line subtract 0x8003_602a 0x8000_0001 0x8003_6029
    ∷ line multiply 0x0000_0000 0x8003_6029 0x8000_0000
    ∷ [])
    (1 ∷ 0 ∷ 0 ∷ 0 ∷ 0 ∷ 0 ∷ 0 ∷ 0 ∷ 0 ∷ 0 ∷ 0 ∷ [])
    0x8003_6029 0x8000_0000

abbrev pub tiny_kept_sheet : Sample
tiny_kept_sheet =
    sample 0xb707_4a08 0x8173_c940
    (line multiply 0xb707_4a08 0x8173_c940 0x0000_0102
    ∷ line multiply 0x4b80_0000 0xb707_4a08 0xc307_4a08
    ∷ line multiply 0x4b80_0000 0x8173_c940 0x8d73_c940
    ∷ line multiply 0xc307_4a08 0x8d73_c940 0x1100_d5a1
    ∷ fused_line 0xc307_4a08 0x8d73_c940 0x9100_d5a1 0x84ea_6c00
    ∷ line multiply 0x5780_0000 0x0000_0102 0x1101_0000
    ∷ line subtract 0x1100_d5a1 0x1101_0000 0x8c29_7c00
    ∷ line add 0x84ea_6c00 0x8c29_7c00 0x8c29_7dd5
    ∷ line subtract 0x8c29_7dd5 0x8c29_7c00 0x84ea_8000
    ∷ line multiply 0x0000_0000 0x0000_0102 0x0000_0000
    ∷ [])
    (1 ∷ 0 ∷ 0 ∷ 1 ∷ 0 ∷ 0 ∷ 0 ∷ 1 ∷ 0 ∷ 0 ∷ [])
    0x0000_0102 0x0000_0000

abbrev pub middle_changed_sheet : Sample
middle_changed_sheet =
    sample 0xaba8_1280 0x1563_0000
    (line multiply 0xaba8_1280 0x1563_0000 0x8195_0868
    ∷ line multiply 0x4b80_0000 0xaba8_1280 0xb7a8_1280
    ∷ line multiply 0xb7a8_1280 0x1563_0000 0x8d95_0868
    ∷ fused_line 0xb7a8_1280 0x1563_0000 0x0d95_0868 0x0180_0000
    ∷ line multiply 0x3f7f_ffff 0x8d95_0868 0x8d95_0867
    ∷ line subtract 0x8d95_0867 0x8d95_0868 0x0200_0000
    ∷ line multiply 0x4000_0000 0x0180_0000 0x0200_0000
    ∷ line multiply 0x3380_0000 0x8d95_0867 0x8195_0867
    ∷ line multiply 0x3380_0000 0x8180_0000 0x8000_0002
    ∷ line multiply 0x4b80_0000 0x8000_0002 0x8180_0000
    ∷ line subtract 0x8180_0000 0x8180_0000 0x0000_0000
    ∷ [])
    (1 ∷ 0 ∷ 1 ∷ 0 ∷ 1 ∷ 0 ∷ 0 ∷ 0 ∷ 0 ∷ 0 ∷ 0 ∷ [])
    0x8195_0867 0x8000_0002

abbrev pub middle_changed_zero_sheet : Sample
middle_changed_zero_sheet =
    sample 0x2361_2000 0x9d11_8e00
    (line multiply 0x2361_2000 0x9d11_8e00 0x8100_0000
    ∷ line multiply 0x4b80_0000 0x2361_2000 0x2f61_2000
    ∷ line multiply 0x2f61_2000 0x9d11_8e00 0x8d00_0000
    ∷ fused_line 0x2f61_2000 0x9d11_8e00 0x0d00_0000 0x0080_0000
    ∷ line multiply 0x3f7f_ffff 0x8d00_0000 0x8cff_ffff
    ∷ line subtract 0x8cff_ffff 0x8d00_0000 0x0100_0000
    ∷ line multiply 0x4000_0000 0x0080_0000 0x0100_0000
    ∷ line multiply 0x3380_0000 0x8cff_ffff 0x80ff_ffff
    ∷ line multiply 0x3380_0000 0x8080_0000 0x8000_0000
    ∷ line multiply 0x4b80_0000 0x8000_0000 0x8000_0000
    ∷ line subtract 0x8000_0000 0x8080_0000 0x0080_0000
    ∷ line multiply 0x0000_0000 0x80ff_ffff 0x8000_0000
    ∷ [])
    (1 ∷ 0 ∷ 1 ∷ 0 ∷ 0 ∷ 0 ∷ 0 ∷ 0 ∷ 1 ∷ 0 ∷ 0 ∷ 0 ∷ [])
    0x80ff_ffff 0x8000_0000

abbrev pub middle_kept_sheet : Sample
middle_kept_sheet =
    sample 0xa6ee_88fe 0x9acf_fde2
    (line multiply 0xa6ee_88fe 0x9acf_fde2 0x0241_cd55
    ∷ line multiply 0x4b80_0000 0xa6ee_88fe 0xb2ee_88fe
    ∷ line multiply 0xb2ee_88fe 0x9acf_fde2 0x0e41_cd55
    ∷ fused_line 0xb2ee_88fe 0x9acf_fde2 0x8e41_cd55 0x01b3_ec78
    ∷ line multiply 0x3f7f_ffff 0x0e41_cd55 0x0e41_cd54
    ∷ line subtract 0x0e41_cd54 0x0e41_cd55 0x8280_0000
    ∷ line multiply 0x4000_0000 0x01b3_ec78 0x0233_ec78
    ∷ line multiply 0x3380_0000 0x0e41_cd55 0x0241_cd55
    ∷ line multiply 0x3380_0000 0x01b3_ec78 0x0000_0003
    ∷ line multiply 0x4b80_0000 0x0000_0003 0x01c0_0000
    ∷ line subtract 0x01c0_0000 0x01b3_ec78 0x0030_4e20
    ∷ [])
    (1 ∷ 0 ∷ 1 ∷ 0 ∷ 1 ∷ 0 ∷ 0 ∷ 0 ∷ 1 ∷ 0 ∷ 0 ∷ [])
    0x0241_cd55 0x0000_0003

abbrev pub middle_kept_zero_sheet : Sample
middle_kept_zero_sheet =
    sample 0xb18c_a000 0x8f29_d870
    (line multiply 0xb18c_a000 0x8f29_d870 0x013a_9909
    ∷ line multiply 0x4b80_0000 0xb18c_a000 0xbd8c_a000
    ∷ line multiply 0xbd8c_a000 0x8f29_d870 0x0d3a_9909
    ∷ fused_line 0xbd8c_a000 0x8f29_d870 0x8d3a_9909 0x0018_0000
    ∷ line multiply 0x3f7f_ffff 0x0d3a_9909 0x0d3a_9908
    ∷ line subtract 0x0d3a_9908 0x0d3a_9909 0x8180_0000
    ∷ line multiply 0x4000_0000 0x0018_0000 0x0030_0000
    ∷ line multiply 0x3380_0000 0x0d3a_9909 0x013a_9909
    ∷ line multiply 0x3380_0000 0x0018_0000 0x0000_0000
    ∷ line multiply 0x4b80_0000 0x0000_0000 0x0000_0000
    ∷ line subtract 0x0000_0000 0x0018_0000 0x8018_0000
    ∷ line multiply 0x0000_0000 0x013a_9909 0x0000_0000
    ∷ [])
    (1 ∷ 0 ∷ 1 ∷ 0 ∷ 1 ∷ 0 ∷ 0 ∷ 0 ∷ 1 ∷ 0 ∷ 0 ∷ 0 ∷ [])
    0x013a_9909 0x0000_0000

abbrev pub middle_lowered_sheet : Sample
middle_lowered_sheet =
    sample 0x80ba_c000 0xc14d_9820
    (line multiply 0x80ba_c000 0xc14d_9820 0x0295_fab9
    ∷ line multiply 0x4b80_0000 0x80ba_c000 0x8cba_c000
    ∷ line multiply 0x8cba_c000 0xc14d_9820 0x0e95_fab9
    ∷ fused_line 0x8cba_c000 0xc14d_9820 0x8e95_fab9 0x0230_0000
    ∷ line multiply 0x3f7f_ffff 0x0e95_fab9 0x0e95_fab8
    ∷ line subtract 0x0e95_fab8 0x0e95_fab9 0x8300_0000
    ∷ line multiply 0x4000_0000 0x0230_0000 0x02b0_0000
    ∷ line multiply 0x3380_0000 0x0e95_fab9 0x0295_fab9
    ∷ line multiply 0x3380_0000 0x0230_0000 0x0000_0006
    ∷ line multiply 0x4b80_0000 0x0000_0006 0x0240_0000
    ∷ line subtract 0x0240_0000 0x0230_0000 0x0080_0000
    ∷ line subtract 0x0000_0006 0x0000_0001 0x0000_0005
    ∷ [])
    (1 ∷ 0 ∷ 1 ∷ 0 ∷ 1 ∷ 0 ∷ 0 ∷ 0 ∷ 1 ∷ 0 ∷ 0 ∷ 0 ∷ [])
    0x0295_fab9 0x0000_0005

abbrev pub other_changed_sheet : Sample
other_changed_sheet =
    sample 0x412a_0000 0xbad2_7ac0
    (line multiply 0x412a_0000 0xbad2_7ac0 0xbc8b_c584
    ∷ fused_line 0x412a_0000 0xbad2_7ac0 0x3c8b_c584 0x3080_0000
    ∷ line multiply 0x3f7f_ffff 0xbc8b_c584 0xbc8b_c583
    ∷ line subtract 0xbc8b_c583 0xbc8b_c584 0x3100_0000
    ∷ line multiply 0x4000_0000 0x3080_0000 0x3100_0000
    ∷ [])
    (1 ∷ 0 ∷ 1 ∷ 0 ∷ 0 ∷ [])
    0xbc8b_c583 0xb080_0000

abbrev pub other_kept_sheet : Sample
other_kept_sheet =
    sample 0xbae1_d580 0x42ec_7158
    (line multiply 0xbae1_d580 0x42ec_7158 0xbe50_94cf
    ∷ fused_line 0xbae1_d580 0x42ec_7158 0x3e50_94cf 0x3104_7000
    ∷ line multiply 0x3f7f_ffff 0xbe50_94cf 0xbe50_94ce
    ∷ line subtract 0xbe50_94ce 0xbe50_94cf 0x3280_0000
    ∷ line multiply 0x4000_0000 0x3104_7000 0x3184_7000
    ∷ [])
    (1 ∷ 0 ∷ 1 ∷ 0 ∷ 0 ∷ [])
    0xbe50_94cf 0x3104_7000

abbrev pub other_kept_zero_sheet : Sample
other_kept_zero_sheet =
    sample 0x31cd_e000 0x9a52_e000
    (line multiply 0x31cd_e000 0x9a52_e000 0x8ca9_95e4
    ∷ fused_line 0x31cd_e000 0x9a52_e000 0x0ca9_95e4 0x0000_0000
    ∷ line multiply 0x3f7f_ffff 0x8ca9_95e4 0x8ca9_95e3
    ∷ line subtract 0x8ca9_95e3 0x8ca9_95e4 0x0100_0000
    ∷ line multiply 0x4000_0000 0x0000_0000 0x0000_0000
    ∷ line multiply 0x0000_0000 0x8ca9_95e4 0x8000_0000
    ∷ [])
    (0 ∷ 0 ∷ 1 ∷ 0 ∷ 0 ∷ 0 ∷ [])
    0x8ca9_95e4 0x8000_0000

-- ---- four more, of questions in which NaN stands elsewhere
-- second, where it does not change places (R5.9)
abbrev pub second_nan_sheet : Sample
second_nan_sheet =
    sample 0x0000_0000 0xffc0_0001
    (line add 0x0000_0000 0xffc0_0001 0xffc0_0001
    ∷ [])
    (2 ∷ [])
    0xffc0_0001 0xffc0_0001

-- u and -u times an infinity: h is zero and a' NaN, and b' is the NaN -a' that stands on its line (R2.4)
abbrev pub smallest_sheet : Sample
smallest_sheet =
    sample 0x0000_0001 0x7f80_0000
    (line multiply 0x0000_0001 0x7f80_0000 0x7f80_0000
    ∷ line multiply 0x3f00_0000 0x0000_0001 0x0000_0000
    ∷ line multiply 0x0000_0000 0x7f80_0000 0x7fc0_0000
    ∷ fused_line 0x0000_0000 0x7f80_0000 0xffc0_0000 0xffc0_0000
    ∷ [])
    (2 ∷ 1 ∷ 2 ∷ 2 ∷ [])
    0x7f80_0000 0x7f80_0000

abbrev pub minus_smallest_sheet : Sample
minus_smallest_sheet =
    sample 0x8000_0001 0x7f80_0000
    (line multiply 0x8000_0001 0x7f80_0000 0xff80_0000
    ∷ line multiply 0x3f00_0000 0x8000_0001 0x8000_0000
    ∷ line multiply 0x8000_0000 0x7f80_0000 0x7fc0_0000
    ∷ fused_line 0x8000_0000 0x7f80_0000 0xffc0_0000 0xffc0_0000
    ∷ [])
    (2 ∷ 1 ∷ 2 ∷ 2 ∷ [])
    0xff80_0000 0xff80_0000

-- an infinite operand: NaN from line 2 on, on both sides of a subtraction, and no NaN line ends the sheet
abbrev pub infinite_operand_sheet : Sample
infinite_operand_sheet =
    sample 0x7f80_0000 0x3f80_0000
    (line add 0x7f80_0000 0x3f80_0000 0x7f80_0000
    ∷ line subtract 0x7f80_0000 0x7f80_0000 0x7fc0_0000
    ∷ line subtract 0x3f80_0000 0x7fc0_0000 0x7fc0_0000
    ∷ line multiply 0x3f7f_ffff 0x7f80_0000 0x7f80_0000
    ∷ line subtract 0x7f80_0000 0x7f80_0000 0x7fc0_0000
    ∷ line multiply 0x4000_0000 0x7fc0_0000 0x7fc0_0000
    ∷ line multiply 0x3f00_0000 0x7f80_0000 0x7f80_0000
    ∷ line multiply 0x3f00_0000 0x3f80_0000 0x3f00_0000
    ∷ line add 0x7f80_0000 0x3f00_0000 0x7f80_0000
    ∷ line subtract 0x7f80_0000 0x7f80_0000 0x7fc0_0000
    ∷ line subtract 0x3f00_0000 0x7fc0_0000 0x7fc0_0000
    ∷ [])
    (2 ∷ 2 ∷ 2 ∷ 2 ∷ 2 ∷ 2 ∷ 2 ∷ 0 ∷ 2 ∷ 2 ∷ 2 ∷ [])
    0x7f80_0000 0x7f80_0000

-- ---- in the order of the table's rows
abbrev pub not_nan_sum_samples : List Sample
not_nan_sum_samples =
    sum_changed_sheet ∷ sum_changed_zero_sheet ∷ sum_kept_sheet ∷ sum_kept_zero_sheet ∷ sum_infinite_sheet ∷ sum_edge_sheet ∷ []

abbrev pub sum_samples : List Sample
sum_samples = sum_nan_sheet ∷ not_nan_sum_samples

abbrev pub product_samples : List Sample
product_samples =
    product_nan_sheet ∷ product_infinite_sheet ∷ product_edge_sheet ∷ product_zero_sheet ∷ tiny_lowered_sheet ∷ tiny_kept_sheet
    ∷ middle_changed_sheet ∷ middle_changed_zero_sheet ∷ middle_kept_sheet ∷ middle_kept_zero_sheet ∷ middle_lowered_sheet
    ∷ other_changed_sheet ∷ other_kept_sheet ∷ other_kept_zero_sheet ∷ []

-- ---- with the four more
abbrev pub shown_sums : List Sample
shown_sums = second_nan_sheet ∷ infinite_operand_sheet ∷ sum_samples

abbrev pub shown_products : List Sample
shown_products = smallest_sheet ∷ minus_smallest_sheet ∷ product_samples

-- ---- an account of R5 gives these sheets
abbrev pub Shows : (ℕ → ℕ → Sheet) → List Sample → Type 0
Shows sheet [] = Unit {0}
Shows sheet (sample x y ls marked first second ∷ samples) =
    (sheet x y ≡ record { lines = ls; first = first; second = second }) × Shows sheet samples

-- the sum of a way too where it is asked the other way round, unless it is NaN; every sum where it is the difference of x and the flipped
-- y (R5.9)
abbrev pub GivesAll : (Operation → ℕ → ℕ → Sheet) → Type 0
GivesAll sheet =
    Shows (sheet sum) shown_sums × Shows (λ x y. sheet sum y x) not_nan_sum_samples × Shows (λ x y. sheet difference x (minus y)) shown_sums
    × Shows (sheet product) shown_products

-- both accounts do
abbrev pub SampledSheets : Type 0
SampledSheets = GivesAll sheet_of × GivesAll sheet_by_table

-- A line as it is written above has the mark of its step (`line` of worksheet_spec). These are the marks that stand with the samples.
abbrev pub ShowsMarks : List Sample → Type 0
ShowsMarks [] = Unit {0}
ShowsMarks (sample x y ls marked first second ∷ samples) = (marks ls ≡ marked) × ShowsMarks samples

abbrev pub SampledMarks : Type 0
SampledMarks = ShowsMarks shown_sums × ShowsMarks shown_products
