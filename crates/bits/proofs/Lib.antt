-- The laws of bits, and of a choice by a test.
pub mod Single
pub mod FromBits
pub mod Kept
pub mod Choice
