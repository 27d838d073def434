mod Quickly
